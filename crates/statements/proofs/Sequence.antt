-- The statements of a file, one after the other. Assumes nothing.
use mathlib.Core.Path.{◌≡◌, refl, sym, ap, subst, ◌∙◌}
use mathlib.Core.List.{List, [], ◌∷◌, ◌++◌, map, reverse}
use Prim.Native.Nat.{ℕ, ◌+◌, ◌-◌, ◌*◌, ◌≤◌, ◌<◌}
use native.Mathlib.Omega.{arith}
use lib.ListN.{length, set, take, drop, length-map}
use Rattle.records.specs.Bytes.{Bytes}
use Rattle.records.specs.Record.{header_of, statement_at}
use Rattle.records.specs.File.{Statement, read, statement_records, statements_start}
use Rattle.records.specs.declared.layout.Header.{Header}
use Rattle.records.specs.declared.layout.NodeRecord.{NodeRecord}
use Rattle.records.specs.declared.layout.StatementRecord.{StatementRecord}
use Rattle.walk_rules.specs.Context.{Context, context_of}
use Rattle.statements_rules.specs.Trace.{Traced, pure, ◌>>=◌}
use Rattle.statements_rules.specs.Statements.{Kept, statement_of, fold_statement, fold_statements}
use Rattle.statements_rules.specs.Fold.{fold_file, folded_file, with_statements}
use Rattle.statements_search.specs.Kept.{laid_initializer, node_count, laid_declarators, nodes_in, folded_names}
use Rattle.statements_search.specs.KeptStatements.{declarators_kept, tables}
use Rattle.statements_progress.specs.declared.progress.Progress.{Progress}
use Rattle.statements.specs.Added.{Adds}
use Rattle.statements.specs.Numbers.{Numbered}
use Rattle.statements.specs.State.{Long, StandingRecords}
use Rattle.statements.specs.Folds.{Taking, CanFold, Folds, Accepted, FoldsAll}
use Rattle.statements.proofs.Adding.{written-first, adds_none, adds_then}
use Rattle.statements.proofs.Numbers.{number-written, numbers_are}
use Rattle.statements.proofs.Pushes.{first_record, next-records}
use Rattle.statements.proofs.Beginning.{at_start, taking-all, statements-coming, statements_are}
use Rattle.statements.proofs.Result.{trees-laid, nodes-counted, declarators-counted, statements-counted, declarators_printed, statements_printed}

module _ (file : List ℕ) (h : Header) where
  abbrev ctx : Context
  ctx = context_of (read file)

  abbrev whole : Traced (List Kept)
  whole = fold_statements (context_of (read file)) 0 [] (read file).statements

  -- The statements before number `i` are taken, and these are left, from which the same comes.
  pub record Ordered (nodes records starts statements folded₀ folded kept : List ℕ) (p : Progress) (i total : ℕ) (ks : List Kept) (ss : List Statement) (rest : List ℕ) (before : List NodeRecord) : Type 0 where
    pub taking : Taking file h (tables nodes records starts statements) p ks ss rest before
    pub coming : StandingRecords statement_at file (statements_start h) i (statement_records ss)
    pub many : i + length ss ≡ total
    pub numbers : Numbered kept ks
    pub result-is : whole.result ≡ (fold_statements ctx i ks ss).result
    pub adds : {folded' : List ℕ} {r : Progress} → Adds folded folded' p r (fold_statements ctx i ks ss) → Adds folded₀ folded' at_start r whole

  abbrev pub SomeOrdered : List ℕ → List ℕ → List ℕ → List ℕ → List ℕ → List ℕ → List ℕ → Progress → ℕ → ℕ → Type 0
  SomeOrdered nodes records starts statements folded₀ folded kept p i total =
      (ks : List Kept) × (ss : List Statement) × (rest : List ℕ) × (before : List NodeRecord) × Ordered nodes records starts statements folded₀ folded kept p i total ks ss rest before

  pub ordered_begins : (nodes records starts statements folded kept : List ℕ) (total : ℕ) → Accepted file → h ≡ header_of file → total ≡ h.statements → SomeOrdered nodes records starts statements folded folded kept at_start 0 total
  unfolding Numbered
  ordered_begins nodes records starts statements folded kept total (room, e) eh et = (
    [],
    (read file).statements,
    nodes,
    [],
    record {
      taking = subst (λ (x : Header). Taking file x (tables nodes records starts statements) at_start [] (read file).statements nodes []) (sym eh) (taking-all file room e nodes records starts statements);
      coming = subst (λ (x : Header). StandingRecords statement_at file (statements_start x) 0 (statement_records (read file).statements)) (sym eh) (statements-coming file room e);
      many = omega (arith, statements_are file room e, et, ap (λ (x : Header). x.statements) eh);
      numbers = tt;
      result-is = refl;
      adds = λ a. a;
    },
  )

  -- the record of a statement in the part that begins at byte `from`
  stands : (i from : ℕ) → from ≡ statements_start h → (s : StatementRecord) → s ≡ statement_at file (from + 4 * i) → s ≡ statement_at file (statements_start h + 4 * i)
  stands i from ef s es = es ∙ ap (λ (k : ℕ). statement_at file (k + 4 * i)) ef

  module _ {nodes records starts statements folded₀ folded kept : List ℕ} {p : Progress} {i total : ℕ} where
    -- there is one more, in the part that begins at byte `from`
    module _ (l : i < total) (from : ℕ) (ef : from ≡ statements_start h) where
      pub ordered_inside : SomeOrdered nodes records starts statements folded₀ folded kept p i total → from + 4 * i + 4 ≤ length file
      unfolding statement_records
      ordered_inside (ks, [], rest, before, o) = absurd (omega (arith, o.many))
      ordered_inside (ks, st ∷ ss, rest, before, o) = omega (arith, o.coming.inside, ef)

      module _ (s : StatementRecord) (es : s ≡ statement_at file (from + 4 * i)) where
        pub can_fold : SomeOrdered nodes records starts statements folded₀ folded kept p i total → CanFold file h (tables nodes records starts statements) s p
        unfolding statement_records
        can_fold (ks, [], rest, before, o) = absurd (omega (arith, o.many))
        can_fold (ks, st ∷ ss, rest, before, o) = (ks, st, ss, rest, before, o.taking, stands i from ef s es ∙ first_record o.coming)

        -- it is taken, and its number is written as the last of those that are kept
        pub ordered_on : {nodes' records' starts' statements' folded' : List ℕ} {r : Progress}
            → Folds ctx file h (tables nodes records starts statements) (tables nodes' records' starts' statements') folded folded' s p r → h.statements ≤ length kept
            → SomeOrdered nodes records starts statements folded₀ folded kept p i total
            → (0 < r.statements_kept) × (r.statements_kept ≤ length kept) × SomeOrdered nodes' records' starts' statements' folded₀ folded' (set kept (r.statements_kept - 1) i) r (i + 1) total
        unfolding statement_records fold_statements ◌>>=◌
        ordered_on w long (ks, [], rest, before, o) = absurd (omega (arith, o.many))
        ordered_on {nodes'} {records'} {starts'} {statements'} {folded'} {r} w long (ks, st ∷ ss, rest, before, o) =
            let v = fold_statement ctx i ks st in
            let (rest', before', t, f) = w ks st ss rest before o.taking (stands i from ef s es ∙ first_record o.coming) i in
            let few = t.room.stated in
            let (some, numbers) = number-written ctx kept i ks st r.statements_kept o.numbers t.holds.stated (omega (arith, few, long)) in
            let on : Ordered nodes' records' starts' statements' folded₀ folded' (set kept (r.statements_kept - 1) i) r (i + 1) total v.result ss rest' before' =
            record {
              taking = t;
              coming = next-records o.coming;
              many = omega (arith, o.many);
              numbers = numbers;
              result-is = o.result-is;
              adds = λ a. o.adds (adds_then (fold_statements ctx i ks (st ∷ ss)) refl refl f a);
            } in
            (some, omega (arith, few, long), (v.result, ss, rest', before', on))

    -- there is none
    all_ordered : total ≤ i → Long h (tables nodes records starts statements) folded₀ → h.statements ≤ length kept → Bytes records → Bytes statements → SomeOrdered nodes records starts statements folded₀ folded kept p i total
        → FoldsAll file nodes records statements folded₀ folded kept (record { nodes_used = p.nodes_used; declarators_kept = p.declarators_kept; statements_kept = p.statements_kept; folds = p.folds; looks = p.looks })
    unfolding fold_file folded_file with_statements fold_statements pure laid_declarators laid_initializer nodes_in node_count
    all_ordered l (l₁, l₂, l₃, l₄, l₅) l₆ small small' (ks, st ∷ ss, rest, before, o) = absurd (omega (arith, o.many))
    all_ordered l (l₁, l₂, l₃, l₄, l₅) l₆ small small' (ks, [], rest, before, o) =
        let a = o.taking.holds in
        let m = o.taking.room in
        let e = ap (map statement_of) o.result-is in
        let w : Adds folded₀ folded at_start p whole = o.adds (adds_none (pure (reverse ks)) refl refl refl refl) in
        let n : p.folds ≡ length (folded_names whole.trace) = omega (arith, w.folds, length-map whole.trace (λ f. f.name)) in (
          rest,
          drop (0 + 4 * declarators_kept ks) records,
          drop (0 + 4 * length ks) statements,
          record {
            trees = rw e (a.is ∙ trees-laid ks rest);
            declared = rw e (declarators_printed records starts statements ks a.kept small (omega (arith, m.declared, a.declared)));
            stated = rw e (statements_printed records starts statements ks a.kept small' (omega (arith, m.stated, a.stated)));
            used = rw e (omega (arith, a.ends, a.starting, nodes-counted ks));
            many = rw e (a.declared ∙ declarators-counted records starts statements ks a.kept);
            count = rw e (a.stated ∙ statements-counted records starts statements ks a.kept);
            folds = omega (arith, w.folds);
            names = written-first folded₀ folded (folded_names whole.trace) w.names (omega (arith, n, m.declared, l₅)) ∙ ap (λ (k : ℕ). folded_names whole.trace ++ drop k folded₀) (sym n);
            numbers = ◌∙◌ {c = map (λ k. k.number) whole.result} (ap (λ (k : ℕ). take k kept) a.stated ∙ numbers_are kept ks (omega (arith, a.stated, m.stated, l₆)) o.numbers) (ap (map (λ k. k.number)) (sym o.result-is));
            looks = omega (arith, w.looks);
          },
        )

    -- so it is of the slices that lent these tables
    pub ordered_ends : {nodes' records' statements' : List ℕ} → nodes' ≡ nodes → records' ≡ records → statements' ≡ statements
        → total ≤ i → Long h (tables nodes records starts statements) folded₀ → h.statements ≤ length kept → Bytes records' → Bytes statements' → SomeOrdered nodes records starts statements folded₀ folded kept p i total
        → FoldsAll file nodes' records' statements' folded₀ folded kept (record { nodes_used = p.nodes_used; declarators_kept = p.declarators_kept; statements_kept = p.statements_kept; folds = p.folds; looks = p.looks })
    ordered_ends en er es l long l₆ small small' o = rw (en, er, es) (all_ordered l long l₆ (subst Bytes er small) (subst Bytes es small') o)
