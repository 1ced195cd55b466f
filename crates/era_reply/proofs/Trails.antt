-- The trail of a command's events, event by event.
use Rattle.std.proofs.Common.{◌≡◌, ℕ, zero, suc, ◌+◌, ◌<◌, true, false, List, [], ◌∷◌, ◌++◌, length, get_or, take, drop, refl, ap, sym, ◌∙◌, append_assoc, arith}
use Rattle.std.specs.Fmt.{decimal}
use Rattle.std.specs.Borrow.{Bor}
use Rattle.std.proofs.lemmas.Bool.{false≢true, true≢false}
use Rattle.std.proofs.lemmas.List.{append-nil, take_more}
use Rattle.era_model.specs.Commands.{answer_after, answer_after_event, answer_of}
use Rattle.era_model.specs.Events.{letter_of}
use Rattle.era_model.specs.Transcript.{trail_text}
use Rattle.era_model.specs.declared.entry.Entry.{Entry}
use Rattle.era_model.specs.declared.event.Event.{Event}
use Rattle.era_model.specs.declared.event.Event.TheVariants.{Tried, Mark, Go, Done, Cut, Settle, Unsettled, Read, Roll, Kept, Snap, Dropped, Digest, List as ListEvent, Status, Refused}
use Rattle.era_model.specs.declared.reply.Answer.{Answer}
use Rattle.era_model.specs.declared.reply.Answer.TheVariants.{Range}
use Rattle.era_reply.specs.Replies.{answer_by, gives_answer, placed, trail_of}

-- an event that gives an answer gives the same one behind any other
pub answer-anew : (before : Answer) (event : Event) → gives_answer event ≡ true → answer_after_event before event ≡ answer_by event
answer-anew before (Tried id block era) is = absurd (false≢true is)
answer-anew before (Mark id block era) is = absurd (false≢true is)
answer-anew before (Go id block era first bytes) is = absurd (false≢true is)
answer-anew before (Done id) is = refl
answer-anew before (Cut id faults) is = refl
answer-anew before (Settle by cut bytes) is = absurd (false≢true is)
answer-anew before (Unsettled by cut faults) is = absurd (false≢true is)
answer-anew before (Read id sector bytes) is = refl
answer-anew before (Roll id era) is = refl
answer-anew before (Kept id inside) is = refl
answer-anew before (Snap id block) is = refl
answer-anew before (Dropped id) is = refl
answer-anew before (Digest id era page) is = refl
answer-anew before (ListEvent id since snap blocks) is = refl
answer-anew before (Status id used total era held) is = refl
answer-anew before (Refused id kind why) is = refl

-- one that gives none leaves the one before
pub answer-kept : (before : Answer) (event : Event) → gives_answer event ≡ false → answer_after_event before event ≡ before
answer-kept before (Tried id block era) is = refl
answer-kept before (Mark id block era) is = refl
answer-kept before (Go id block era first bytes) is = refl
answer-kept before (Done id) is = absurd (true≢false is)
answer-kept before (Cut id faults) is = absurd (true≢false is)
answer-kept before (Settle by cut bytes) is = refl
answer-kept before (Unsettled by cut faults) is = refl
answer-kept before (Read id sector bytes) is = absurd (true≢false is)
answer-kept before (Roll id era) is = absurd (true≢false is)
answer-kept before (Kept id inside) is = absurd (true≢false is)
answer-kept before (Snap id block) is = absurd (true≢false is)
answer-kept before (Dropped id) is = absurd (true≢false is)
answer-kept before (Digest id era page) is = absurd (true≢false is)
answer-kept before (ListEvent id since snap blocks) is = absurd (true≢false is)
answer-kept before (Status id used total era held) is = absurd (true≢false is)
answer-kept before (Refused id kind why) is = absurd (true≢false is)

-- the answer after one event more
answer-more : (before : Answer) (events : List (ℕ × Event)) (event : ℕ × Event) → answer_after before (events ++ event ∷ []) ≡ answer_after_event (answer_after before events) event.1
answer-more before [] event = refl
answer-more before (first ∷ events) event = answer-more (answer_after_event before first.1) events event

trail-more : (trail : List (Bor Entry)) (entry : Bor Entry) → trail_of (trail ++ entry ∷ []) ≡ trail_of trail ++ placed entry.now ∷ []
trail-more [] entry = refl
trail-more (first ∷ trail) entry = ap (λ l. placed first.now ∷ l) (trail-more trail entry)

trail-next : (trail : List (Bor Entry)) (i : ℕ) (d : Bor Entry) → i < length trail → trail_of (take (i + 1) trail) ≡ trail_of (take i trail) ++ placed (get_or trail i d).now ∷ []
trail-next trail i d here = ap trail_of (take_more trail i d here) ∙ trail-more (take i trail) (get_or trail i d)

answer-next : (trail : List (Bor Entry)) (i : ℕ) (d : Bor Entry) → i < length trail
    → answer_of (trail_of (take (i + 1) trail)) ≡ answer_after_event (answer_of (trail_of (take i trail))) (get_or trail i d).now.event
answer-next trail i d here =
    ap answer_of (trail-next trail i d here) ∙ answer-more Range (trail_of (take i trail)) (placed (get_or trail i d).now)

-- the answer so far, behind an event that gives one
pub told-anew : (trail : List (Bor Entry)) (i : ℕ) (entry : Bor Entry) → i < length trail → entry ≡ get_or trail i entry → gives_answer entry.now.event ≡ true
    → answer_by entry.now.event ≡ answer_of (trail_of (take (i + 1) trail))
told-anew trail i entry here at gives =
    sym (answer-next trail i entry here
    ∙ ap (λ (e : Bor Entry). answer_after_event (answer_of (trail_of (take i trail))) e.now.event) (sym at)
    ∙ answer-anew (answer_of (trail_of (take i trail))) entry.now.event gives)

-- the answer so far, behind an event that gives none
pub told-kept : (trail : List (Bor Entry)) (i : ℕ) (entry : Bor Entry) (told : Answer) → i < length trail → entry ≡ get_or trail i entry → gives_answer entry.now.event ≡ false
    → told ≡ answer_of (trail_of (take i trail)) → told ≡ answer_of (trail_of (take (i + 1) trail))
told-kept trail i entry told here at gives is =
    is ∙ sym (answer-next trail i entry here
    ∙ ap (λ (e : Bor Entry). answer_after_event (answer_of (trail_of (take i trail))) e.now.event) (sym at)
    ∙ answer-kept (answer_of (trail_of (take i trail))) entry.now.event gives)

-- a trail's text, and one event more
trail-text-more : (events : List (ℕ × Event)) (event : ℕ × Event) → trail_text (events ++ event ∷ []) ≡ trail_text events ++ trail_text (event ∷ [])
trail-text-more [] event = refl
trail-text-more (first ∷ events) event =
    ap (λ l. 32 ∷ letter_of first.1 ∷ l) (ap (λ l. decimal first.0 ++ l) (trail-text-more events event) ∙ sym (append_assoc (decimal first.0) (trail_text events) (trail_text (event ∷ []))))

pub text-next : (trail : List (Bor Entry)) (i : ℕ) (entry : Bor Entry) → i < length trail → entry ≡ get_or trail i entry
    → trail_text (trail_of (take (i + 1) trail)) ≡ trail_text (trail_of (take i trail)) ++ trail_text (placed entry.now ∷ [])
text-next trail i entry here at =
    ap trail_text (trail-next trail i entry here) ∙ trail-text-more (trail_of (take i trail)) (placed (get_or trail i entry).now)
    ∙ ap (λ (e : Bor Entry). trail_text (trail_of (take i trail)) ++ trail_text (placed e.now ∷ [])) (sym at)

-- the events before one, this one, and the rest
text-parts : (trail : List (Bor Entry)) (i : ℕ) (d : Bor Entry) → i < length trail
    → trail_text (trail_of trail) ≡ trail_text (trail_of (take i trail)) ++ (trail_text (placed (get_or trail i d).now ∷ []) ++ trail_text (trail_of (drop (suc i) trail)))
text-parts [] i d h = absurd (omega arith)
text-parts (p ∷ ps) zero d h =
    ap (λ l. 32 ∷ letter_of p.now.event ∷ l) (ap (λ l. l ++ trail_text (trail_of ps)) (sym (append-nil (decimal p.now.place))))
text-parts (p ∷ ps) (suc i) d h =
    let before = trail_text (trail_of (take i ps)) in
    let rest = trail_text (placed (get_or ps i d).now ∷ []) ++ trail_text (trail_of (drop (suc i) ps)) in
    ap (λ l. 32 ∷ letter_of p.now.event ∷ l) (ap (λ l. decimal p.now.place ++ l) (text-parts ps i d (omega arith)) ∙ sym (append_assoc (decimal p.now.place) before rest))

pub text-split : (trail : List (Bor Entry)) (i : ℕ) (entry : Bor Entry) → i < length trail → entry ≡ get_or trail i entry
    → trail_text (trail_of trail) ≡ trail_text (trail_of (take i trail)) ++ (trail_text (placed entry.now ∷ []) ++ trail_text (trail_of (drop (suc i) trail)))
text-split trail i entry here at =
    text-parts trail i entry here
    ∙ ap (λ (e : Bor Entry). trail_text (trail_of (take i trail)) ++ (trail_text (placed e.now ∷ []) ++ trail_text (trail_of (drop (suc i) trail)))) (sym at)
