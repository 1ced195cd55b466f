-- Runs and answers as their parts, one after another.
use Rattle.std.proofs.Common.{◌≡◌, ◌≢◌, ℕ, List, [], ◌++◌, ap, sym, ◌∙◌, inl, inr, append_assoc}
use Rattle.std.specs.Prelude.{Option, codes, if◌then◌else◌}
use Rattle.std.specs.Fmt.{decimal}
use Rattle.std.proofs.lemmas.Bool.{eq-eqb}
use Rattle.std.proofs.lemmas.Bool.Decides.{eqb_tells}
use Rattle.std.proofs.lemmas.List.{append-nil}
use Rattle.hex.specs.Hex.{encode_lower}
use Rattle.era_model.specs.Transcript.{answer_text, number_or_dash, reply_line, run_text, trail_text}
use Rattle.era_model.specs.Commands.{answer_of}
use Rattle.era_model.specs.declared.event.Event.{Event}
use Rattle.era_model.specs.declared.reply.Answer.TheVariants.{Digest, Found, Status}

-- a run of one block
pub run-one : (first last : ℕ) → first ≡ last → run_text (first, last) ≡ decimal first ++ []
run-one first last same = rw (eq-eqb first last same) (sym (append-nil (decimal first)))

two-numbers : (first last : List ℕ) → first ++ codes "-" ++ last ≡ first ++ (codes "-" ++ (last ++ []))
two-numbers first last = simp (append_assoc, append-nil)

-- a run of several blocks
pub run-several : (first last : ℕ) → first ≢ last → run_text (first, last) ≡ decimal first ++ (codes "-" ++ (decimal last ++ []))
run-several first last apart = elim (eqb_tells first last) [
  | inl same ↦ absurd (apart same.1)
  | inr other ↦ ap (λ same. if same then decimal first else decimal first ++ codes "-" ++ decimal last) other.0 ∙ two-numbers (decimal first) (decimal last)
]

-- words and a number
pub numbered-parts : (words : List ℕ) (number : ℕ) → words ++ (decimal number ++ []) ≡ words ++ decimal number
numbered-parts words number = ap (λ l. words ++ l) (append-nil (decimal number))

-- bytes that were read
pub found-parts : (bytes : List ℕ) → codes "data " ++ (encode_lower bytes ++ []) ≡ answer_text (Found bytes)
found-parts bytes = ap (λ l. codes "data " ++ l) (append-nil (encode_lower bytes))

-- a digest step
pub digest-parts : (era : ℕ) (page : Option ℕ) → codes "digest " ++ (decimal era ++ (codes " " ++ (number_or_dash page ++ []))) ≡ answer_text (Digest era page)
digest-parts era page = simp (append_assoc, append-nil)

-- a status
pub status-parts : (used total era : ℕ) (held : Option ℕ)
    → codes "status 8 " ++ (decimal used ++ (codes "/" ++ (decimal total ++ (codes " " ++ (decimal era ++ (codes " " ++ (number_or_dash held ++ [])))))))
    ≡ answer_text (Status used total era held)
status-parts used total era held = simp (append_assoc, append-nil)

-- a reply: its line's number, the answer, the trail and the end of the line
pub reply-parts : (line : ℕ) (events : List (ℕ × Event))
    → (decimal line ++ (codes " " ++ [])) ++ (answer_text (answer_of events) ++ (trail_text events ++ codes "\n")) ≡ reply_line line events
reply-parts line events = simp (append_assoc, append-nil)
