-- The search from one declarator, from what the code did.
use Prim.Native.Nat.{ℕ, ◌+◌, ◌-◌, ◌*◌, ◌≤◌}
use native.Mathlib.Omega.{arith}
use mathlib.Core.Bool.{Bool, true, false}
use mathlib.Core.List.{List, [], ◌++◌, append_assoc}
use mathlib.Core.Path.{◌≡◌, refl, sym, ap, ◌∙◌, subst}
use lib.ListN.{length, length-append}
use lib.Dec.{eqb}
use Rattle.records.specs.Tree.{Node, Tree, none, more, size, record_of, node_of}
use Rattle.records.specs.File.{Initializer, bare, given, is_given}
use Rattle.records.specs.declared.layout.DeclaratorRecord.{DeclaratorRecord}
use Rattle.records.specs.declared.layout.NodeId.{NodeId}
use Rattle.records.proofs.Tests.{both, clash}
use Rattle.records_table.specs.Table.{work_bytes}
use Rattle.records_table.specs.Laid.{laid, laids, At, TreeAt, Stands}
use Rattle.records_table.proofs.Laid.{laid-length, laid_split, work_length}
use Rattle.walk_rules.specs.Context.{Context}
use Rattle.walk_rules.specs.Looks.{looks_in_expression}
use Rattle.walk_rules.specs.Substitute.{Answer as RuleAnswer, replaced, substitute_in_expression}
use Rattle.statements_rules.specs.Declarators.{ends_search}
use Rattle.walk_arms.specs.declared.replacement.Replacement.{Replacement}
use Rattle.walk_arms.specs.declared.walked.Answer.{Answer}
use Rattle.walk_arms.specs.declared.walked.Walked.{Walked}
use Rattle.walk_arms.specs.declared.walked.Answer.TheVariants.{Replaced, Stopped, Passed}
use Rattle.walk_arms.specs.Answers.{is_replaced, in_place, put_at, told}
use Rattle.walk_arms.specs.Described.{Describes}
use Rattle.walk_arms.specs.Search.{bare_names, Searchable, Did, Searches}
use Rattle.walk.proofs.Searching.{sought}
use Rattle.walk_splice.specs.Splice.{Before, HoldsName, After, Splices}
use Rattle.statements_declarator.specs.declared.declarator_parts.Initializer.TheVariants.{Given}
use Rattle.statements_declarator.specs.Cases.{initializer_of}
use Rattle.statements_declarator.proofs.Cases.{is-given}
use Rattle.statements_search.proofs.BareNames.{Bare, bare-answer}
use Rattle.statements_search.specs.declared.from_declarator.Tried.{Tried}
use Rattle.statements_search.specs.Kept.{laid_initializer, node_count, bare_initializer}
use Rattle.statements_search.specs.Try.{Try, by_answer, no_try, try_from}
use Rattle.statements_search.proofs.Holes.{name_hole}
use Rattle.statements_search.specs.FromDeclarators.{Standing, CanTry, Stepped, Tries}

none-given : is_given bare ≡ 0
unfolding is_given
none-given = refl

-- The name was found: the table holds a tree that differs from what it becomes only in the name's record, where the tree `t`
-- is to be placed.
record Found (table : List ℕ) (at : ℕ) (target : Tree) (pre rest : List ℕ) (t : Tree) (place : NodeId) (indirect : Bool) (t' held : Tree) (name : Node) (between after : List ℕ) : Type 0 where
  here : TreeAt table at held pre rest
  holds : (x : List ℕ) → laid held x ≡ between ++ (work_bytes (record_of name 0) ++ (after ++ x))
  becomes : (x : List ℕ) → laid t' x ≡ between ++ laid (in_place indirect t name) (after ++ x)
  stands : 16 * place.0 ≡ 16 * at + length between
  same : size held ≡ size target

replaced-found : {table : List ℕ} {at : ℕ} {target : Tree} {pre rest : List ℕ} {name : ℕ} {t : Tree} {w : Answer} {end : ℕ} {a : RuleAnswer Tree} {held : Tree} (place : NodeId) (indirect : Bool) → Did table at target pre rest name t w end a held → w ≡ Replaced place indirect
    → (t' : Tree) × (n : Node) × (between : List ℕ) × (after : List ℕ) × (a ≡ replaced t') × Found table at target pre rest t place indirect t' held n between after
unfolding told
replaced-found {table} {at} {target} {pre} {rest} {name} {t} {w} {end} {a} {held} place indirect d e =
    let d' = subst (λ w. Did table at target pre rest name t w end a held) e d in
    let (n, between, after, h) = name_hole name held (place.0 - at) d'.besides.1 in (
      put_at held (place.0 - at) (in_place indirect t),
      n,
      between,
      after,
      sym d'.says,
      record {
        here = d'.here;
        holds = h.holds;
        becomes = h.becomes (in_place indirect t);
        stands = omega (arith, h.stands, d'.besides.0);
        same = d'.same;
      },
    )

bare-is : (i : Initializer) → eqb (is_given i) 1 ≡ false → i ≡ bare
unfolding is_given
bare-is bare e = refl
bare-is (given t) e = clash true e refl

-- the initializer, and the tree behind it
module _ {table : List ℕ} {from start used : ℕ} {t target : Tree} {pre rest : List ℕ} (w : Standing table from start used (given t) target pre rest) where
  tree-at : TreeAt table from t pre (laid target rest)
  unfolding laid_initializer laids
  tree-at = record { is = w.is; starts = w.begins }

  target_at : TreeAt table start target (pre ++ laid t []) rest
  unfolding laid_initializer laids node_count
  target_at = record {
    is = w.is ∙ ap (λ l. pre ++ l) (laid_split t (laid target rest)) ∙ sym (append_assoc pre (laid t []) (laid target rest));
    starts = length-append pre (laid t []) ∙ omega (arith, w.begins, laid-length t [], w.starts);
  }

  bare-both : (bare_names t ≡ true) × (bare_names target ≡ true)
  unfolding bare_initializer
  bare-both = both (bare_names t) (bare_names target) w.names

-- the answer where the initializer was not placed
abbrev unfolded : NodeId → ℕ → ℕ → Tried
unfolded tree used looks = record { folded = false; tree = tree; nodes_used = used; looks = looks }

-- Nothing was folded, and the tree is as it was.
module _ {table : List ℕ} {from used : ℕ} (tree : NodeId) {initializer : Initializer} {target : Tree} {pre rest : List ℕ} (w : Standing table from tree.0 used initializer target pre rest) where
  bare-target : bare_names target ≡ true
  bare-target = (both (bare_initializer initializer) (bare_names target) w.names).1

  stepped_kept : {r : Tried} (step : Try) → step ≡ no_try target → r ≡ unfolded tree used 0 → Stepped table from initializer pre rest step r
  stepped_kept {r} step e q = rw (e, q) (record { folded = refl; leaves = (w.is, w.starts); used = w.ends; names = bare-target; looks = refl })

module _ (ctx : Context) (literal_only : Bool) (table : List ℕ) (d : DeclaratorRecord) (from : ℕ) (tree : NodeId) (used : ℕ) where
  -- it has no initializer
  pub try_bare : {r : Tried} → eqb d.present 1 ≡ false → r ≡ unfolded tree used 0 → Tries ctx literal_only table table d from tree.0 used r
  unfolding try_from
  try_bare e q initializer target pre rest w p =
      stepped_kept tree w (try_from ctx literal_only d.name initializer target) (rw (bare-is initializer (subst (λ x. eqb x 1 ≡ false) p e)) refl) q

  ended-step : (t target : Tree) → ends_search ctx literal_only d.name t ≡ true → try_from ctx literal_only d.name (given t) target ≡ no_try target
  unfolding try_from
  ended-step t target h = rw h refl

  -- a test ends the search
  pub try_ended : {r : Tried} → eqb d.present 1 ≡ true → ((pre : List ℕ) (t : Tree) (rest : List ℕ) → TreeAt table from t pre rest → ends_search ctx literal_only d.name t ≡ true)
      → r ≡ unfolded tree used 0 → Tries ctx literal_only table table d from tree.0 used r
  try_ended e h q bare target pre rest w p = clash false refl (subst (λ x. eqb x 1 ≡ true) (p ∙ none-given) e)
  try_ended e h q (given t) target pre rest w p = stepped_kept tree w (try_from ctx literal_only d.name (given t) target) (ended-step t target (h pre t (laid target rest) (tree-at w))) q

-- What the code may ask where there is an initializer.
module _ (table : List ℕ) (d : DeclaratorRecord) (from start used : ℕ) (e : eqb d.present 1 ≡ true) where
  pub can_given : CanTry table d from start used → Stands table from × Searchable table start × (16 * used + 16 ≤ length table)
  can_given (bare, target, pre, rest, w, p, room) = clash false refl (subst (λ x. eqb x 1 ≡ true) (p ∙ none-given) e)
  can_given (given t, target, pre, rest, w, p, room) =
      ((pre, t, laid target rest, tree-at w), (pre ++ laid t [], target, rest, target_at w, (bare-both w).1), room)

-- The tree was searched, and the initializer not placed.
module _ (ctx : Context) (literal_only : Bool) (table table' : List ℕ) (d : DeclaratorRecord) (from : ℕ) (tree : NodeId) (used : ℕ) (s : Replacement) (w : Walked) (n : s.name.0 ≡ d.name) where
  searched-step : (t target : Tree) → ends_search ctx literal_only d.name t ≡ false → w.looks ≡ looks_in_expression ctx s.name.0 t target
      → try_from ctx literal_only d.name (given t) target ≡ by_answer target w.looks (substitute_in_expression ctx s.name.0 t target)
  unfolding try_from
  searched-step t target h l = rw (h, l, n) refl

  back_at : (t target' : Tree) (pre rest : List ℕ) → At table' tree.0 (more target' none) (pre ++ laid t []) rest → table' ≡ pre ++ laid_initializer (given t) (laid target' rest)
  unfolding laids laid_initializer
  back_at t target' pre rest x = x.is ∙ append_assoc pre (laid t []) (laid target' rest) ∙ ap (λ l. pre ++ l) (sym (laid_split t (laid target' rest)))

  stepped-stopped : {r : Tried} {t target : Tree} {pre rest : List ℕ} → Standing table from tree.0 used (given t) target pre rest → (v : Answer) {end : ℕ} (held : Tree) → Did table' tree.0 target (pre ++ laid t []) rest s.name.0 t v end (substitute_in_expression ctx s.name.0 t target) held
      → is_replaced v ≡ false → Bare (substitute_in_expression ctx s.name.0 t target) → r ≡ unfolded tree used w.looks → Stepped table' from (given t) pre rest (by_answer target w.looks (substitute_in_expression ctx s.name.0 t target)) r
  unfolding by_answer told
  stepped-stopped x (Replaced place indirect) held y z b q = clash true z refl
  stepped-stopped {r} {t} {target} {pre} {rest} x Stopped held y z b q =
      rw (q, ← y.says) (record { folded = refl; leaves = (back_at t held pre rest y.here, x.starts); used = x.ends ∙ omega (arith, y.same); names = subst Bare (sym y.says) b; looks = refl })
  stepped-stopped {r} {t} {target} {pre} {rest} x (Passed effect) held y z b q =
      rw (q, ← y.says) (record { folded = refl; leaves = (back_at t target pre rest (subst (λ u. TreeAt table' tree.0 u (pre ++ laid t []) rest) y.besides.0 y.here), x.starts); used = x.ends; names = (bare-both x).1; looks = refl })

  pub try_stopped : {r : Tried} → eqb d.present 1 ≡ true → ((pre : List ℕ) (t : Tree) (rest : List ℕ) → TreeAt table from t pre rest → ends_search ctx literal_only d.name t ≡ false)
      → ((pre : List ℕ) (t : Tree) (rest : List ℕ) → TreeAt table from t pre rest → Describes s t) → Searches ctx s table table' tree.0 w → is_replaced w.answer ≡ false
      → r ≡ unfolded tree used w.looks → Tries ctx literal_only table table' d from tree.0 used r
  try_stopped e h k v z q bare target pre rest x p = clash false refl (subst (λ x. eqb x 1 ≡ true) (p ∙ none-given) e)
  try_stopped {r} e h k v z q (given t) target pre rest x p =
      let (held, y, l) = sought ctx s table table' tree.0 w v t (k pre t (laid target rest) (tree-at x)) (pre ++ laid t []) target rest (target_at x) in
      subst (λ step. Stepped table' from (given t) pre rest step r) (sym (searched-step t target (h pre t (laid target rest) (tree-at x)) l))
      (stepped-stopped x w.answer held y z (bare-answer ctx s.name.0 t (bare-both x).0 target (bare-both x).1) q)

  -- The name was found: the initializer moves to its place.
  module _ (place : NodeId) (indirect : Bool) (o : w.answer ≡ Replaced place indirect) where
    found_before : {t target t' held : Tree} {pre rest : List ℕ} {name : Node} {between after : List ℕ} → Standing table from tree.0 used (given t) target pre rest
        → Found table' tree.0 target (pre ++ laid t []) rest t place indirect t' held name between after → Before table' from tree.0 place.0 used t (record_of name 0) pre between after rest
    unfolding laid_initializer node_count laids
    found_before {t} {target} {t'} {held} {pre} {rest} {name} {between} {after} x f = record {
      is = f.here.is ∙ ap (λ l. (pre ++ laid t []) ++ l) (f.holds rest) ∙ append_assoc pre (laid t []) (between ++ (work_bytes (record_of name 0) ++ (after ++ rest))) ∙ ap (λ l. pre ++ l) (sym (laid_split t (between ++ (work_bytes (record_of name 0) ++ (after ++ rest)))));
      starts = x.begins;
      searched = omega (arith, x.starts);
      found = sym f.stands;
      ends = omega (arith, f.stands, x.ends, f.same, laid-length held [], ap length (f.holds []), length-append between (work_bytes (record_of name 0) ++ (after ++ [])), length-append (work_bytes (record_of name 0)) (after ++ []), work_length (record_of name 0), length-append after []);
    }

    pub holds-name : CanTry table d from tree.0 used → eqb d.present 1 ≡ true → ((pre : List ℕ) (t : Tree) (rest : List ℕ) → TreeAt table from t pre rest → Describes s t) → Searches ctx s table table' tree.0 w → HoldsName table' from tree.0 place.0 used
    holds-name (bare, target, pre, rest, x, p, room) e k v = clash false refl (subst (λ x. eqb x 1 ≡ true) (p ∙ none-given) e)
    holds-name (given t, target, pre, rest, x, p, room) e k v =
        let (held, y, l) = sought ctx s table table' tree.0 w v t (k pre t (laid target rest) (tree-at x)) (pre ++ laid t []) target rest (target_at x) in
        let (t', name, between, after, i, f) = replaced-found place indirect y o in
        (t, record_of name 0, pre, between, after, rest, found_before x f)

    -- what the tree has become, where the initializer moved to
    moved : {t target t' held : Tree} {pre rest rest' : List ℕ} {name : Node} {between after : List ℕ} {table'' : List ℕ} {left : ℕ} → Standing table from tree.0 used (given t) target pre rest
        → Found table' tree.0 target (pre ++ laid t []) rest t place indirect t' held name between after
        → After table'' left (in_place indirect t (node_of (record_of name 0))) pre between after rest'
        → (table'' ≡ pre ++ laid t' rest') × (left ≡ from + size t')
    unfolding laids record_of node_of
    moved {t} {target} {t'} {held} {pre} {rest} {rest'} {name} {between} {after} {table''} {left} x f g = (
      g.is ∙ ap (λ l. pre ++ l) (sym (f.becomes rest')),
      omega (arith, g.ends, x.begins, laid-length t' [], ap length (f.becomes []), length-append between (laid (in_place indirect t name) (after ++ [])), laid-length (in_place indirect t name) (after ++ []), length-append after []),
    )

  stepped-folded : {r : Tried} {table'' : List ℕ} {left : ℕ} {place : NodeId} (t t' : Tree) (pre rest rest' : List ℕ) (step : Try) → step ≡ record { folds = true; target = t'; looks = w.looks } → table'' ≡ pre ++ laid t' rest' → left ≡ from + size t' → bare_names t' ≡ true
      → r ≡ record { folded = true; tree = place; nodes_used = left; looks = w.looks } → place.0 ≡ from → Stepped table'' from (given t) pre rest step r
  stepped-folded t t' pre rest rest' step e h l b q m = rw (e, q) (record { folded = refl; leaves = (rest', h, m); used = l ∙ ap (λ k. k + size t') (sym m); names = b; looks = refl })

  pub try_folded : {r : Tried} {table'' : List ℕ} {left : ℕ} {start : NodeId} (place : NodeId) (indirect : Bool) → w.answer ≡ Replaced place indirect → eqb d.present 1 ≡ true → ((pre : List ℕ) (t : Tree) (rest : List ℕ) → TreeAt table from t pre rest → ends_search ctx literal_only d.name t ≡ false)
      → ((pre : List ℕ) (t : Tree) (rest : List ℕ) → TreeAt table from t pre rest → Describes s t) → Searches ctx s table table' tree.0 w
      → Splices table' table'' from tree.0 place.0 used indirect left
      → r ≡ record { folded = true; tree = start; nodes_used = left; looks = w.looks } → start.0 ≡ from → Tries ctx literal_only table table'' d from tree.0 used r
  unfolding by_answer
  try_folded place indirect o e h k v g q m bare target pre rest x p = clash false refl (subst (λ x. eqb x 1 ≡ true) (p ∙ none-given) e)
  try_folded {r} {table''} {left} place indirect o e h k v g q m (given t) target pre rest x p =
      let (held, y, l) = sought ctx s table table' tree.0 w v t (k pre t (laid target rest) (tree-at x)) (pre ++ laid t []) target rest (target_at x) in
      let (t', name, between, after, i, f) = replaced-found place indirect y o in
      let (rest', z) = g t (record_of name 0) pre between after rest (found_before place indirect o x f) in
      let (u, c) = moved place indirect o {rest' = rest'} x f z in
      let b : Bare (replaced t') = subst Bare i (bare-answer ctx s.name.0 t (bare-both x).0 target (bare-both x).1) in
      stepped-folded t t' pre rest rest' (try_from ctx literal_only d.name (given t) target) (searched-step t target (h pre t (laid target rest) (tree-at x)) l ∙ ap (by_answer target w.looks) i) u c b q m

-- Where the record has an initializer that begins at `at`: what the code may ask there, and that it has done the same at `from`.
module _ (d : DeclaratorRecord) (from : NodeId) {at : NodeId} (g : initializer_of d from ≡ Given at) where
  pub can_try_at : {table : List ℕ} {start used : ℕ} → CanTry table d from.0 start used → CanTry table d at.0 start used
  can_try_at {table} {start} {used} c = subst (λ (k : NodeId). CanTry table d k.0 start used) (sym (is-given d from g).1) c

  pub can_at : {table : List ℕ} {start used : ℕ} → CanTry table d from.0 start used → Stands table at.0 × Searchable table start × (16 * used + 16 ≤ length table)
  can_at {table} {start} {used} c = can_given table d at.0 start used (is-given d from g).0 (can_try_at c)

  pub tried_at : (ctx : Context) (literal_only : Bool) {table table' : List ℕ} {start used : ℕ} {r : Tried}
      → Tries ctx literal_only table table' d at.0 start used r → Tries ctx literal_only table table' d from.0 start used r
  tried_at ctx literal_only {table} {table'} {start} {used} {r} t = subst (λ (k : NodeId). Tries ctx literal_only table table' d k.0 start used r) (is-given d from g).1 t
