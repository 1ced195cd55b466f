-- A block that no mark lists keeps its content, over all sessions, from any moment on.
use Rattle.std.proofs.Common.{◌≡◌, ℕ, ◌<◌, ◌≤◌, true, false, ◌==◌, List, [], ◌∷◌, Some, None, Option, refl, ap, sym, ◌∙◌, subst, arith, inl, inr}
use Rattle.std.specs.Prelude.{max}
use Rattle.std.proofs.lemmas.Bool.{cond_both, true_from_ne_false, leb-false, lt-leb}
use Rattle.std.proofs.lemmas.Bool.Decides.{eqb_tells}
use Rattle.std.proofs.lemmas.Option.{same_Some}
use Rattle.era_base.specs.Geometry.{blocks_of}
use Rattle.era_base.specs.declared.geometry.Geometry.{Geometry}
use Rattle.era_model.specs.declared.event.Event.{Event}
use Rattle.era_model.specs.declared.event.Event.TheVariants.{Mark, Go, Done, Cut, Settle}
use Rattle.era_model.specs.declared.history.Happening.{Happening}
use Rattle.era_model.specs.declared.history.Happening.TheVariants.{Opened, Happened, Crashed}
use Rattle.era_model.specs.declared.history.Images.{Images}
use Rattle.era_model.specs.declared.opening.Opening.{Opening}
use Rattle.era_model.specs.Chains.{IsMoment}
use Rattle.era_model.specs.Changed.{IsCrashContent, IsChangedSince}
use Rattle.era_model.specs.Crashes.{MayCrash, IsReopening, geometry_now, image_of}
use Rattle.era_model.specs.History.{at_opening, blocks_at, blocks_now, content, era_of, in_flight, known_bytes}
use Rattle.era_model.specs.Legal.{IsLegal}
use Rattle.era_model.specs.Marking.{journal_last_era}
use Rattle.era_model.specs.Marks.{BlockMarks, marks_last_era, written_since}
use Rattle.era_model.specs.Recovered.{HaveJournalLasts, IsRecoveredFrom}
use Rattle.era_model.specs.Writes.{block_bytes}
use Rattle.era_model.proofs.Ascending.{IsBegun, era-moment, legal-moment, quiet-below, start-begun}
use Rattle.era_model.proofs.Flights.{touches, touches-without, touches-with_cut, content-kept, image-is_content}
use Rattle.era_model.proofs.SwitchLasts.{switch-keeps}

-- What holds of a block as long as its last marked era is below the one asked for: no write of it is in flight, and it has the content of the base.
pub record IsUnwritten (h : List Happening) (block : ℕ) (base : List ℕ) : Type 0 where
  pub quiet : touches (in_flight h) block ≡ false
  pub same : content h block ≡ base

-- a block below the era is unwritten
abbrev pub KeepsBase : List Happening → ℕ → ℕ → List ℕ → Type 0
KeepsBase h block era base = journal_last_era h block < era → IsUnwritten h block base

-- an event keeps it, where the era has begun
event-keeps : (h : List Happening) (event : Event) (block era : ℕ) (base : List ℕ) → IsLegal (Happened event ∷ h) → era ≤ era_of h → KeepsBase h block era base → KeepsBase (Happened event ∷ h) block era base
event-keeps h (Mark id other marked) block era base legal begun keeps below =
    let present = legal.1.present in
    cond_both (other == block) marked (journal_last_era h block) (λ last. last < era → IsUnwritten (Happened (Mark id other marked) ∷ h) block base)
    (λ same less. absurd (omega arith))
    (λ apart less. let before = keeps less in record { quiet = before.quiet; same = before.same }) below
event-keeps h (Go id other now first bytes) block era base legal begun keeps below =
    let before = keeps below in
    record { quiet = quiet-below (Happened (Go id other now first bytes) ∷ h) block legal (omega arith); same = before.same }
event-keeps h (Done id) block era base legal begun keeps below =
    let before = keeps below in
    record { quiet = touches-without (in_flight h) id block before.quiet; same = content-kept h id block _ before.quiet ∙ before.same }
event-keeps h (Cut id faults) block era base legal begun keeps below =
    let before = keeps below in
    record { quiet = touches-with_cut (in_flight h) id block ∙ before.quiet; same = before.same }
event-keeps h (Settle by cut bytes) block era base legal begun keeps below =
    let before = keeps below in
    record { quiet = touches-without (in_flight h) cut block before.quiet; same = content-kept h cut block bytes before.quiet ∙ before.same }
event-keeps h event block era base legal begun keeps below = let before = keeps below in record { quiet = before.quiet; same = before.same }

-- what is read off an opening that has the geometry
pub at-geometry : {T : Type 0} (none : T) (of : Geometry → T) (h : List Happening) (g : Geometry) → geometry_now h ≡ Some g → at_opening none (λ opening. of opening.geometry) h ≡ of g
at-geometry none of [] g is = absurd (cc)
at-geometry none of (Opened opening ∷ h) g is = ap of (same_Some opening.geometry g is)
at-geometry none of (Happened event ∷ h) g is = at-geometry none of h g is
at-geometry none of (Crashed images ∷ h) g is = at-geometry none of h g is

-- marks that may be recovered have no last marked era below the journal's
pub recovered-last : (h : List Happening) (m : BlockMarks) (exception : Option ℕ) (block : ℕ) → block < blocks_now h → HaveJournalLasts h m exception → journal_last_era h block ≤ marks_last_era m block
recovered-last h m None block within lasts = let e = lasts block within in omega arith
recovered-last h m (Some other) block within lasts = elim (eqb_tells block other) [
  | inl same ↦ let e = lasts.0.later in subst (λ b. journal_last_era h b ≤ marks_last_era m b) (sym same.1) (omega arith)
  | inr apart ↦ let e = lasts.1 block within apart.1 in omega arith
]

-- a reopened session has as many blocks
pub blocks-reopened : (h : List Happening) (images : Images) (opening : Opening) → IsReopening h images opening → blocks_now h ≡ blocks_at opening
blocks-reopened h images opening re = at-geometry 0 (λ g. blocks_of g.sectors g.block_sectors) h opening.geometry re.geometry

-- a reopened session begins with what the crash left
content-reopened : (h : List Happening) (images : Images) (opening : Opening) (block : ℕ) → IsReopening h images opening → content (Opened opening ∷ Crashed images ∷ h) block ≡ image_of h images block
content-reopened h images opening block re =
    ap (λ contents. block_bytes opening.geometry.block_sectors (known_bytes contents.bytes) block) re.contents
    ∙ ap (λ size. block_bytes size (known_bytes images.contents.bytes) block) (sym (at-geometry 0 (λ g. g.block_sectors) h opening.geometry re.geometry))

-- a crash and a reopening keep it
reopening-keeps : (h : List Happening) (images : Images) (opening : Opening) (block era : ℕ) (base : List ℕ) → MayCrash h images → IsReopening h images opening → block < blocks_now h
    → KeepsBase h block era base → KeepsBase (Opened opening ∷ Crashed images ∷ h) block era base
reopening-keeps h images opening block era base crash re within keeps below =
    let last : marks_last_era opening.marks block ≡ marks_last_era images.marks block = ap (λ m. marks_last_era m block) re.marks ∙ (switch-keeps images.marks crash.metadata.valid).lasts block in
    let greater = recovered-last h images.marks crash.metadata.exception block within crash.metadata.lasts in
    let before = keeps (omega arith) in
    record { quiet = refl; same = content-reopened h images opening block re ∙ image-is_content h block _ before.quiet (crash.origin.blocks block within) ∙ before.same }

-- from a moment at which the era has begun, a block that no mark lists since that era keeps the base's content
pub keeps-base : (h start : List Happening) (block era : ℕ) (base : List ℕ) → IsLegal h → IsMoment h start → block < blocks_now h → era ≤ era_of start
    → (block < blocks_now start → KeepsBase start block era base) → KeepsBase h block era base
keeps-base [] start block era base legal is within begun keeps below = subst (λ s. KeepsBase s block era base) is (keeps (rw is within)) below
keeps-base (happening ∷ h) start block era base legal (inl same) within begun keeps below = subst (λ s. KeepsBase s block era base) same (keeps (rw same within)) below
keeps-base (Opened opening ∷ []) start block era base legal (inr is) within begun keeps below = absurd (let e : era_of start ≡ 0 = ap era_of is in omega arith)
keeps-base (Opened opening ∷ Opened before ∷ h) start block era base legal (inr is) within begun keeps below = absurd legal.0
keeps-base (Opened opening ∷ Happened event ∷ h) start block era base legal (inr is) within begun keeps below = absurd legal.0
keeps-base (Opened opening ∷ Crashed images ∷ h) start block era base legal (inr is) within begun keeps below =
    let here : block < blocks_now h = rw (blocks-reopened h images opening legal.0) within in
    let before : KeepsBase (Crashed images ∷ h) block era base = keeps-base (Crashed images ∷ h) start block era base legal.1 is here begun keeps in
    reopening-keeps h images opening block era base legal.1.1 legal.0 here (λ less. let b = before less in record { quiet = b.quiet; same = b.same }) below
keeps-base (Happened event ∷ h) start block era base legal (inr is) within begun keeps below =
    event-keeps h event block era base legal (let up = era-moment h start legal.2 is in omega arith) (keeps-base h start block era base legal.2 is within begun keeps) below
keeps-base (Crashed images ∷ h) start block era base legal (inr is) within begun keeps below =
    let before = keeps-base h start block era base legal.2 is within begun keeps below in record { quiet = before.quiet; same = before.same }

-- a block that has changed since an era is listed by all marks that may be recovered
pub changed-is_listed : (h : List Happening) (m : BlockMarks) (found : Option BlockMarks) (era block : ℕ) (image : List ℕ) → IsLegal h → IsRecoveredFrom h m found → block < blocks_now h
    → IsChangedSince h era block image → written_since m era block ≡ true
changed-is_listed h m found era block image legal recovered within changed =
    let begun : IsBegun h era changed.start = start-begun h era changed.start changed.begun in
    let fresh : KeepsBase changed.start block (max era 1) (content changed.start block)
    = λ below. record { quiet = quiet-below changed.start block (legal-moment h changed.start legal begun.moment) (let e = begun.reached in omega arith); same = refl } in
    true_from_ne_false (written_since m era block) (λ unlisted.
    let low : marks_last_era m block < max era 1 = leb-false (max era 1) (marks_last_era m block) unlisted in
    let least = recovered-last h m recovered.exception block within recovered.lasts in
    let kept = keeps-base h changed.start block (max era 1) (content changed.start block) legal begun.moment within begun.reached (λ _. fresh) (omega arith) in
    changed.differs (image-is_content h block image kept.quiet changed.possible ∙ kept.same))

-- from a base that the marks of an opening cover, all marks that may be recovered later cover what a crash may leave
pub base-is_covered : (h earlier : List Happening) (opening : Opening) (m : BlockMarks) (found : Option BlockMarks) (era block : ℕ) (base image : List ℕ) → IsLegal h → IsMoment h (Opened opening ∷ earlier)
    → IsRecoveredFrom h m found → max era 1 ≤ opening.era → block < blocks_now h
    → (block < blocks_at opening → written_since opening.marks era block ≡ false → content (Opened opening ∷ earlier) block ≡ base)
    → IsCrashContent h block image → written_since m era block ≡ false → image ≡ base
base-is_covered h earlier opening m found era block base image legal is recovered begun within covers possible unlisted =
    let low : marks_last_era m block < max era 1 = leb-false (max era 1) (marks_last_era m block) unlisted in
    let least = recovered-last h m recovered.exception block within recovered.lasts in
    let fresh : block < blocks_now (Opened opening ∷ earlier) → KeepsBase (Opened opening ∷ earlier) block (max era 1) base
    = λ here below. record { quiet = refl; same = covers here (lt-leb (max era 1) (marks_last_era opening.marks block) below) } in
    let kept = keeps-base h (Opened opening ∷ earlier) block (max era 1) base legal is within begun fresh (omega arith) in
    image-is_content h block image kept.quiet possible ∙ kept.same
