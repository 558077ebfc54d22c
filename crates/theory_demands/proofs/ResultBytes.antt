-- The result of accepted bytes is bytes: every number of it fits where it is printed. Assumes nothing.
use Prim.Native.Nat.{ℕ, zero, suc, ◌+◌, ◌*◌, ◌<◌}
use native.Mathlib.Omega.{arith}
use mathlib.Core.Bool.{Bool, true, false, ◌&&◌, ◌||◌}
use mathlib.Core.List.{List, [], ◌∷◌}
use mathlib.Core.Path.{◌≡◌, refl, sym, ap, ◌∙◌}
use lib.ListN.{length}
use lib.Dec.{eqb, ltb, leb}
use borrow.Author.Tests.{eqb-true, leb-true, ltb-true, lt-ltb}
use Rattle.records.specs.Bytes.{Bytes}
use Rattle.records.specs.Limits.{no_number, node_length}
use Rattle.records.specs.Records.{every, every_from, records_from, bytes_of}
use Rattle.records.specs.Record.{header_of, header_bytes, name_at, name_bytes, scope_at, scope_bytes, frame_at, frame_bytes, node_at, node_bytes, declarator_bytes, statement_bytes}
use Rattle.records.specs.Header.{outside_limits}
use Rattle.records.specs.Tree.{preorders}
use Rattle.records.specs.Script.{good_declarator, good_statement}
use Rattle.records.specs.Node.{good_node}
use Rattle.records.specs.File.{File, header_for, names_of, scopes_of, frames_of, nodes_of, all_trees, all_declarators, declarator_records, statement_records, read, print}
use Rattle.records.specs.Refusal.{refusal}
use Rattle.records.specs.declared.layout.Header.{Header}
use Rattle.records.proofs.Tests.{both, every-parts, every_more}
use Rattle.statements_rules.specs.Fold.{fold_file, accepted, fold_bytes}
use Rattle.records_laws.proofs.Numbers.{u16_fits}
use Rattle.records_laws.proofs.Accepted.{Accepted, accepted as rows-passed, good_script, good_nodes}
use Rattle.records_laws.proofs.PrintedFile.{printed_header, printed_names, printed_nodes, printed_declarators, printed_statements}
use Rattle.records_laws.proofs.PrintedTests.{declarators_summed}
use Rattle.records_laws.proofs.ReadFile.{read-nodes}
use Rattle.theory_preservation.proofs.Tests.{by_or}
use Rattle.theory_preservation.proofs.Totals.{program-sums}
use Rattle.theory_preservation.proofs.Moves.{file-moves}
use Rattle.theory_demands.proofs.Rows.{file-fits}
use Rattle.theory_demands.proofs.Growth.{moves-lighter}
use Rattle.theory_demands.proofs.Limits.{Within, limits-parts}
use Rattle.theory_demands.proofs.Narrow.{narrow_record, wide, wide_light, records-fit, fit-records}
use Rattle.theory_demands.proofs.Small.{Small, end, byte, small-append, small_bytes, two, all_small, read_small, u32_fits, name-small, scope-small, frame_small, node-small, declarator-small, statements-small}
use Rattle.theory_demands.proofs.Acceptance.{same_names, same-scopes, same-frames, printed_accepted}

-- A header within the limits.
module _ (h : Header) (e : outside_limits h ≡ false) where
  abbrev counts : Within h
  counts = (limits-parts h e).0

  few : (n m : ℕ) → leb n m ≡ true → m < 65536 → n < 65536
  few n m x y = let z = leb-true n m x in omega (arith, z, y)

  scopes-fit : (h.current_scope < 65536) × (h.this_scope < 65536)
  scopes-fit =
      let (current, this) = both (ltb h.current_scope h.scopes) (ltb h.this_scope h.scopes || eqb h.this_scope no_number) (limits-parts h e).2 in
      let most = leb-true h.scopes 256 counts.scopes in
      let x = ltb-true h.current_scope h.scopes current in
      (omega (arith, x, most), by_or (ltb h.this_scope h.scopes) (eqb h.this_scope no_number) (λ y. (let z = ltb-true h.this_scope h.scopes y in omega (arith, z, most))) (λ y. (let z = eqb-true h.this_scope no_number y in omega (arith, z))) this)

  header_small : h.version ≡ 1 → Small (header_bytes h)
  unfolding header_bytes
  header_small version =
      let options = ltb-true h.options 16 (limits-parts h e).1 in
      let nodes = leb-true (h.nodes + 2 * h.declarators) 3000 counts.nodes in
      let last = eqb-true h.last 0 (limits-parts h e).3 in
      byte 87 (omega arith)
      (byte 83 (omega arith)
      (byte 70 (omega arith)
      (byte h.options (omega (arith, options))
      (two h.version (omega (arith, version))
      (two h.names (few h.names 256 counts.names (omega arith))
      (two h.scopes (few h.scopes 256 counts.scopes (omega arith))
      (two h.frames (few h.frames 16 counts.frames (omega arith))
      (two h.nodes (omega (arith, nodes))
      (two h.declarators (few h.declarators 500 counts.declarators (omega arith))
      (two h.statements (few h.statements 500 counts.statements (omega arith))
      (two h.current_scope scopes-fit.0
      (two h.this_scope scopes-fit.1
      (two h.last (omega (arith, last)) end)))))))))))))

-- two tests of every record, and a test of every record that is read
every_and : {A : Type 0} (a b : A → Bool) (xs : List A) → every a xs ≡ true → every b xs ≡ true → every (λ x. a x && b x) xs ≡ true
unfolding every_from
every_and a b [] h g = refl
every_and a b (x ∷ xs) h g =
    let (p, q) = every-parts a x xs h in
    let (r, s) = every-parts b x xs g in
    every_more (λ x. a x && b x) x xs (rw (p, r)) (every_and a b xs q s)

every-read : {A : Type 0} (good : A → Bool) (readAt : ℕ → A) (len n at : ℕ) → ((i : ℕ) → good (readAt i) ≡ true) → every good (records_from readAt len n at) ≡ true
unfolding every_from records_from
every-read good readAt len zero at h = refl
every-read good readAt len (suc n) at h = every_more good (readAt at) (records_from readAt len n (at + len)) (h at) (every-read good readAt len n (at + len) h)

module _ (bs : List ℕ) (small : Bytes bs) (room : ℕ) (a : Accepted bs room) where
  abbrev g : File
  g = (fold_file (read bs)).file

  abbrev rows : Accepted (print g) room
  rows = printed_accepted bs room a

  -- labels and positions that were read fit, so those of the result do
  narrow-read : every narrow_record (nodes_of bs) ≡ true
  unfolding nodes_of
  narrow-read = every-read narrow_record (node_at bs) node_length (header_of bs).nodes _ (λ i. fits i)
    where
      fits : (i : ℕ) → narrow_record (node_at bs i) ≡ true
      fits i = unfold narrow_record node_at in rw (lt-ltb _ 65536 (u16_fits bs small (i + 2)), lt-ltb _ 4294967296 (u32_fits bs small (i + 8)))

  narrow-result : every narrow_record (preorders (all_trees g.statements) []) ≡ true
  unfolding every_from
  narrow-result =
      let f = read bs in
      let x = records-fit (all_trees f.statements) [] (rw (read-nodes bs room a) narrow-read) in
      let y = program-sums wide f.statements in
      let z = program-sums wide g.statements in
      let m = moves-lighter f wide (wide_light f.names) (file-moves f) (file-fits bs room a) in
      fit-records (all_trees g.statements) [] (omega (arith, x, y, z, m)) refl

  -- each part
  limits : outside_limits (header_for g) ≡ false
  limits = ap outside_limits (sym (printed_header g)) ∙ rows.limits

  header_part : Small (header_bytes (header_for g))
  header_part = header_small (header_for g) limits (unfold header_for in refl)

  names_part : Small (bytes_of name_bytes g.names)
  unfolding names_of
  names_part = rw (same_names bs room a) (read_small name_bytes (name_at bs) _ _ _ (name-small bs small))

  scopes_part : Small (bytes_of scope_bytes g.scopes)
  unfolding scopes_of
  scopes_part = rw (same-scopes bs room a) (read_small scope_bytes (scope_at bs) _ _ _ (scope-small bs small))

  frames_part : Small (bytes_of frame_bytes g.frames)
  unfolding frames_of
  frames_part = rw (same-frames bs room a) (read_small frame_bytes (frame_at bs) _ _ _ (frame_small bs small))

  nodes_part : Small (bytes_of node_bytes (preorders (all_trees g.statements) []))
  nodes_part =
      let good : every (good_node g.names) (preorders (all_trees g.statements) []) ≡ true = rw (← printed_names g, ← printed_nodes g) (good_nodes rows) in
      all_small node_bytes (λ n. good_node g.names n && narrow_record n) (λ n e. (let (x, y) = both (good_node g.names n) (narrow_record n) e in node-small g.names n x y)) (preorders (all_trees g.statements) []) (every_and (good_node g.names) narrow_record (preorders (all_trees g.statements) []) good narrow-result)

  declarators_part : Small (bytes_of declarator_bytes (declarator_records (all_declarators g.statements)))
  unfolding header_for
  declarators_part =
      let good : every (good_declarator g.names) (declarator_records (all_declarators g.statements)) ≡ true = rw (← printed_names g, ← printed_declarators g) (good_script rows).0 in
      all_small declarator_bytes (good_declarator g.names) (declarator-small g.names (leb-true (length g.names) 256 (limits-parts (header_for g) limits).0.names)) (declarator_records (all_declarators g.statements)) good

  statements_part : Small (bytes_of statement_bytes (statement_records g.statements))
  unfolding header_for
  statements_part =
      let good : every good_statement (statement_records g.statements) ≡ true = rw (← printed_statements g) (good_script rows).1 in
      let x = declarators_summed g.statements in
      let y = leb-true (length (all_declarators g.statements)) 500 (limits-parts (header_for g) limits).0.declarators in
      statements-small (statement_records g.statements) good (omega (arith, x, y))

  printed_bytes : Bytes (print g)
  unfolding print
  printed_bytes =
      small_bytes (print g)
      (small-append (header_bytes (header_for g)) _ header_part
      (small-append (bytes_of name_bytes g.names) _ names_part
      (small-append (bytes_of scope_bytes g.scopes) _ scopes_part
      (small-append (bytes_of frame_bytes g.frames) _ frames_part
      (small-append (bytes_of node_bytes (preorders (all_trees g.statements) [])) _ nodes_part
      (small-append (bytes_of declarator_bytes (declarator_records (all_declarators g.statements))) _ declarators_part statements_part))))))

pub result_bytes : (bytes : List ℕ) (room : ℕ) → Bytes bytes → refusal bytes room ≡ 0 → Bytes (fold_bytes bytes room).result
unfolding fold_bytes accepted
result_bytes bytes room small e = rw e (printed_bytes bytes small room (rows-passed bytes room e))
