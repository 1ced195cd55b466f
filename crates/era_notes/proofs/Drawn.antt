-- What a part holds when an event is drawn.
use Rattle.std.proofs.Common.{◌≡◌, ℕ, true, false, List, [], ◌∷◌, Some, refl, sym, ap, ◌∙◌, subst}
use Rattle.era_base.specs.CrashModel.{State}
use Rattle.era_base.specs.declared.ids.CmdId.{CmdId}
use Rattle.era_model.specs.declared.event.Event.TheVariants.{Go, Done, Cut, Settle}
use Rattle.era_model.specs.declared.flight.FlightWrite.{FlightWrite}
use Rattle.era_model.specs.declared.history.Happening.{Happening}
use Rattle.era_model.specs.declared.history.Happening.TheVariants.{Happened}
use Rattle.era_model.specs.Events.{same_id}
use Rattle.era_model.specs.History.{content, in_flight}
use Rattle.era_model.specs.Writes.{without, with_cut, write_of, bytes_of, content_after_write, is_writing, is_cut}
use Rattle.era_notes.specs.Parts.{Part, HoldsBut, HoldsContent}
use Rattle.era_notes.proofs.Held.{holds-issued, holds-over, IsOver}

-- the one write in flight, found by its command
pub without-own : (write : FlightWrite) (id : CmdId) → same_id write.id id ≡ true → without (write ∷ []) id ≡ []
without-own write id same = rw same refl

pub write_of-own : (write : FlightWrite) (id : CmdId) → same_id write.id id ≡ true → write_of (write ∷ []) id ≡ Some write
write_of-own write id same = rw same refl

pub with_cut-own : (write : FlightWrite) (id : CmdId) → same_id write.id id ≡ true → with_cut (write ∷ []) id ≡ (record write { cut = true }) ∷ []
with_cut-own write id same = rw same refl

pub writing-own : (write : FlightWrite) (id : CmdId) → same_id write.id id ≡ true → write.cut ≡ false → is_writing (write ∷ []) id ≡ true
writing-own write id same open_write = rw (same, open_write) refl

pub cut-own : (write : FlightWrite) (id : CmdId) → same_id write.id id ≡ true → write.cut ≡ true → is_cut (write ∷ []) id ≡ true
cut-own write id same is = rw (same, is) refl

-- a write is issued
pub holds-go : (part : Part) (h : List Happening) (id : CmdId) (block era first : ℕ) (bytes : List ℕ) (state : State) → in_flight h ≡ []
    → HoldsContent part h state → HoldsContent part (Happened (Go id block era first bytes) ∷ h) state
holds-go part h id block era first bytes state none holds =
    let write : FlightWrite = record { id = id; block = block; first = first; bytes = bytes; cut = false } in
    let bare = subst (λ writes. HoldsBut part (content h) writes state) none holds in
    subst (λ writes. HoldsBut part (content h) (write ∷ writes) state) (sym none) (holds-issued part (content h) write state bare)

-- it is acknowledged, or resolved by other bytes
after-over : (part : Part) (h : List Happening) (id : CmdId) (write : FlightWrite) (bytes : List ℕ) (state : State) → in_flight h ≡ write ∷ [] → same_id write.id id ≡ true
    → IsOver part write bytes state → HoldsContent part h state
    → HoldsBut part (λ block. content_after_write (content h block) block (write_of (in_flight h) id) bytes) (without (in_flight h) id) state
after-over part h id write bytes state is same over holds =
    let bare = subst (λ writes. HoldsBut part (content h) writes state) is holds in
    let done = holds-over part (content h) write bytes state over bare in
    let one = subst (λ found. HoldsBut part (λ block. content_after_write (content h block) block found bytes) [] state) (sym (write_of-own write id same)) done in
    let two = subst (λ writes. HoldsBut part (λ block. content_after_write (content h block) block (write_of (write ∷ []) id) bytes) writes state) (sym (without-own write id same)) one in
    subst (λ writes. HoldsBut part (λ block. content_after_write (content h block) block (write_of writes id) bytes) (without writes id) state) (sym is) two

pub holds-settle : (part : Part) (h : List Happening) (by cut : CmdId) (write : FlightWrite) (bytes : List ℕ) (state : State) → in_flight h ≡ write ∷ [] → same_id write.id cut ≡ true
    → IsOver part write bytes state → HoldsContent part h state → HoldsContent part (Happened (Settle by cut bytes) ∷ h) state
holds-settle part h by cut write bytes state is same over holds = after-over part h cut write bytes state is same over holds

pub holds-done : (part : Part) (h : List Happening) (id : CmdId) (write : FlightWrite) (state : State) → in_flight h ≡ write ∷ [] → same_id write.id id ≡ true
    → IsOver part write write.bytes state → HoldsContent part h state → HoldsContent part (Happened (Done id) ∷ h) state
holds-done part h id write state is same over holds =
    let found : write_of (in_flight h) id ≡ Some write = ap (λ writes. write_of writes id) is ∙ write_of-own write id same in
    let bytes : write.bytes ≡ bytes_of (write_of (in_flight h) id) = sym (ap bytes_of found) in
    subst (λ bytes. HoldsBut part (λ block. content_after_write (content h block) block (write_of (in_flight h) id) bytes) (without (in_flight h) id) state) bytes
    (after-over part h id write write.bytes state is same over holds)

-- it is cut
pub holds-cut : (part : Part) (h : List Happening) (id : CmdId) (faults : ℕ) (write : FlightWrite) (state : State) → in_flight h ≡ write ∷ [] → same_id write.id id ≡ true
    → HoldsContent part h state → HoldsContent part (Happened (Cut id faults) ∷ h) state
holds-cut part h id faults write state is same holds =
    let bare = subst (λ writes. HoldsBut part (content h) writes state) is holds in
    let now : with_cut (in_flight h) id ≡ (record write { cut = true }) ∷ [] = ap (λ writes. with_cut writes id) is ∙ with_cut-own write id same in
    let cut : HoldsBut part (content h) ((record write { cut = true }) ∷ []) state = record { sizes = bare.sizes; bytes = bare.bytes } in
    subst (λ writes. HoldsBut part (content h) writes state) (sym now) cut
