-- The lines of a session as their parts, one after another.
use Rattle.std.proofs.Common.{◌≡◌, ℕ, List, [], ◌∷◌, ◌++◌, append_assoc}
use Rattle.std.specs.Prelude.{codes, decimal}
use Rattle.era_base.specs.declared.geometry.Geometry.{Geometry}
use Rattle.era_base.specs.Geometry.{blocks_of}
use Rattle.era_model.specs.Transcript.{RefusedLine, SourceFault, open_line, stop_line, end_line}

-- the first line
pub open-parts : (g : Geometry) (era : ℕ) → open_line g era ≡ codes "open " ++ (decimal era ++ (codes " " ++ (decimal (blocks_of g.sectors g.block_sectors) ++ (10 ∷ [] ++ []))))
open-parts g era = simp append_assoc

-- the line where a line was refused
pub line-parts : (line : ℕ) (reason : List ℕ) → stop_line (RefusedLine line reason) ≡ codes "line " ++ (decimal line ++ (codes " " ++ (reason ++ (10 ∷ [] ++ []))))
line-parts line reason = simp append_assoc

-- the line where the source failed
pub source-parts : (count : ℕ) → stop_line (SourceFault count) ≡ codes "fault source " ++ (decimal count ++ (10 ∷ [] ++ []))
source-parts count = simp append_assoc

-- the last line
pub end-parts : (era events : ℕ) → end_line era events ≡ codes "end " ++ (decimal era ++ (codes " " ++ (decimal events ++ (10 ∷ [] ++ []))))
end-parts era events = simp append_assoc
