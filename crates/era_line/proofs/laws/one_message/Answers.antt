use Rattle.std.proofs.Common.{◌≡◌, ℕ, ◌<◌, List, get_or, refl, ap, sym, arith}
use Rattle.era_line.specs.Messages.{word_of_message}
use Rattle.era_line.specs.declared.message.Message.{Message}
use Rattle.era_line.specs.declared.message.Message.TheVariants.{Checkpoint, TakeSnap, DropSnap}
use Rattle.era_line.proofs.laws.one_message.Goals as goal

-- words with different first letters are different
apart : (one other : List ℕ) → get_or one 0 0 < get_or other 0 0 → one ≡ other → ⊥
apart one other less e = let same : get_or one 0 0 ≡ get_or other 0 0 = ap (λ (word : List ℕ). get_or word 0 0) e in omega arith

same_message : (one other : Message) → word_of_message one ≡ word_of_message other → one ≡ other
same_message Checkpoint Checkpoint e = refl
same_message Checkpoint TakeSnap e = absurd (apart (word_of_message Checkpoint) (word_of_message TakeSnap) (omega arith) e)
same_message Checkpoint DropSnap e = absurd (apart (word_of_message Checkpoint) (word_of_message DropSnap) (omega arith) e)
same_message TakeSnap Checkpoint e = absurd (apart (word_of_message Checkpoint) (word_of_message TakeSnap) (omega arith) (sym e))
same_message TakeSnap TakeSnap e = refl
same_message TakeSnap DropSnap e = absurd (apart (word_of_message DropSnap) (word_of_message TakeSnap) (omega arith) (sym e))
same_message DropSnap Checkpoint e = absurd (apart (word_of_message Checkpoint) (word_of_message DropSnap) (omega arith) (sym e))
same_message DropSnap TakeSnap e = absurd (apart (word_of_message DropSnap) (word_of_message TakeSnap) (omega arith) e)
same_message DropSnap DropSnap e = refl

pub returns : goal.returns
returns c = same_message
