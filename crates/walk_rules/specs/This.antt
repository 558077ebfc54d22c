-- Where `this` blocks: the `ThisExpression` of `member_part_blocks_reorder` (src/peephole/mod.rs 255-276).
use Rattle.std.specs.Prelude.{ℕ, Bool, false, cond, ◌&&◌, ◌||◌, not, List, [], ◌∷◌, eqb, leb}
use Rattle.records.specs.Limits.{no_number, no_position}
use Rattle.records.specs.Records.{every}
use Rattle.records.specs.declared.layout.Frame.{Frame}

-- whether a frame has the scope
unfoldable pub has_owner : ℕ → List Frame → Bool
has_owner scope [] = false
has_owner scope (f ∷ fs) = eqb f.scope scope || has_owner scope fs

-- the frames from the last one that has the scope onward, `body_frames[owner_index..]`; none if no frame has it
unfoldable pub frames_from_owner : ℕ → List Frame → List Frame
frames_from_owner scope [] = []
frames_from_owner scope (f ∷ fs) = cond (has_owner scope fs) (frames_from_owner scope fs) (cond (eqb f.scope scope) (f ∷ fs) [])

-- "initialised at or before the node's position" (4294967295 never)
unfoldable pub is_initialised_at : ℕ → Frame → Bool
is_initialised_at position f = not (eqb f.initialised no_position) && leb f.initialised position

-- "`this` blocks if a `this` scope is given and either no frame has it, or no frame from the last such one onward was
-- initialised at or before the node's position."
unfoldable pub this_blocks : ℕ → List Frame → ℕ → Bool
this_blocks this_scope frames position =
    not (eqb this_scope no_number) && every (λ f. not (is_initialised_at position f)) (frames_from_owner this_scope frames)
