-- Forests, and the entries that are kept of their trees. Assumes nothing.
use mathlib.Core.Path.{◌≡◌, refl, sym, ap, ◌∙◌}
use mathlib.Core.Bool.{Bool, true, false, ◌&&◌, and_assoc}
use mathlib.Core.List.{List, ◌∷◌}
use Prim.Native.Nat.{ℕ, zero, suc, ◌+◌, ◌*◌, ◌%◌}
use native.Mathlib.Omega.{arith}
use lib.ListN.{length, take, drop}
use lib.Dec.{leb}
use Rattle.records.specs.Records.{every_from}
use Rattle.records.specs.Tree.{Node, Trees, none, more, count, firsts, others, node_of, grown, forest_of, closed}
use Rattle.records.specs.Place.{root, unchained, unchained_first, stand_under, placed, all_placed, roots_stand}
use Rattle.records.specs.declared.layout.NodeRecord.{NodeRecord}
use Rattle.records_rows.specs.Stack.{entry, entries, entry_kind, entry_unchained, child_stands, first_unchained, children_stand, node_entry, pushed, root_stands}

-- an entry has the kind that it was made of, and is unchained if it was made so
pub entry-kind : (k : ℕ) (b : Bool) → entry_kind (entry k b) ≡ k
unfolding entry
entry-kind k true = omega arith
entry-kind k false = omega arith

pub entry-unchained : (k : ℕ) (b : Bool) → entry_unchained (entry k b) ≡ b
unfolding entry
entry-unchained k true = let e : (2 * k + 1) % 2 ≡ 1 = omega arith in rw e
entry-unchained k false = let e : (2 * k + 0) % 2 ≡ 0 = omega arith in rw e

pub entries-length : (ts : Trees) → length (entries ts) ≡ count ts
unfolding entries count
entries-length none = refl
entries-length (more t ts) = ap suc (entries-length ts)

pub entries-firsts : (k : ℕ) (ts : Trees) → entries (firsts k ts) ≡ take k (entries ts)
unfolding entries firsts
entries-firsts zero ts = refl
entries-firsts (suc k) none = refl
entries-firsts (suc k) (more t ts) = ap (λ (es : List ℕ). entry (root t).kind (unchained t) ∷ es) (entries-firsts k ts)

pub entries-others : (k : ℕ) (ts : Trees) → entries (others k ts) ≡ drop k (entries ts)
unfolding entries others
entries-others zero ts = refl
entries-others (suc k) none = refl
entries-others (suc k) (more t ts) = entries-others k ts

-- children by their entries
pub stand-entries : (p : Node) (i : ℕ) (ts : Trees) → stand_under p i ts ≡ every_from (child_stands p.kind p.flags) i (entries ts)
unfolding stand_under entries every_from child_stands
stand-entries p i none = refl
stand-entries p i (more t ts) =
    rw (entry-kind (root t).kind (unchained t), entry-unchained (root t).kind (unchained t), stand-entries p (i + 1) ts)

pub unchained-entries : (ts : Trees) → unchained_first ts ≡ first_unchained (entries ts)
unfolding unchained_first entries first_unchained
unchained-entries none = refl
unchained-entries (more t ts) = sym (entry-unchained (root t).kind (unchained t))

pub roots_entries : (i : ℕ) (ts : Trees) → roots_stand ts ≡ every_from (λ k. root_stands) i (entries ts)
unfolding roots_stand entries every_from root_stands
roots_entries i none = refl
roots_entries i (more t ts) =
    rw (entry-kind (root t).kind (unchained t), entry-unchained (root t).kind (unchained t), roots_entries (i + 1) ts)

-- the entries of a forest that a node has grown over
pub entries-grown : (r : NodeRecord) (forest : Trees) → entries (grown r forest) ≡ pushed r (entries forest)
unfolding grown entries pushed node_entry unchained node_of
entries-grown r forest = rw (unchained-entries (firsts r.children forest), entries-firsts r.children forest, entries-others r.children forest)

pub placed_split : (k : ℕ) (ts : Trees) → (all_placed (firsts k ts) && all_placed (others k ts)) ≡ all_placed ts
unfolding all_placed firsts others
placed_split zero ts = refl
placed_split (suc k) none = refl
placed_split (suc k) (more t ts) = and_assoc (placed t) _ _ ∙ ap (λ (b : Bool). placed t && b) (placed_split k ts)

and_dealt : (a s c f o : Bool) → ((a && s) && (c && (f && o))) ≡ ((a && c) && ((s && f) && o))
and_dealt true true c f o = refl
and_dealt true false true f o = refl
and_dealt true false false f o = refl
and_dealt false s c f o = refl

-- one record more: its test by entries, and that of the records behind it
pub grown_good : (r : NodeRecord) (rs : List NodeRecord)
    → (children_stand r (entries (forest_of rs)) && (closed rs && all_placed (forest_of rs))) ≡ (closed (r ∷ rs) && all_placed (forest_of (r ∷ rs)))
unfolding children_stand closed forest_of grown all_placed node_of
grown_good r rs =
    rw (entries-length (forest_of rs), ← entries-firsts r.children (forest_of rs), ← stand-entries (node_of r) 0 (firsts r.children (forest_of rs)), ← placed_split r.children (forest_of rs))
    (and_dealt
    (leb r.children (count (forest_of rs)))
    (stand_under (node_of r) 0 (firsts r.children (forest_of rs)))
    (closed rs)
    (all_placed (firsts r.children (forest_of rs)))
    (all_placed (others r.children (forest_of rs))))
