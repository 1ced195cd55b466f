-- What the model asks of a stripe's events holds of the whole log where it holds of the stripe's own draws.
use Rattle.std.proofs.Common.{◌≡◌, ℕ, ◌+◌, ◌*◌, ◌==◌, ◌&&◌, ◌||◌, Bool, true, false, List, [], ◌∷◌, length, refl, ap, sym, ◌∙◌, subst, inl, inr, if◌then◌else◌}
use Rattle.std.specs.Prelude.{not, slice_index}
use Rattle.std.proofs.lemmas.Bool.{cond_both, eq-eqb, or_cases, or_left, or_right}
use Rattle.std.proofs.lemmas.Bool.Decides.{eqb_tells}
use Rattle.std.proofs.lemmas.Option.{same_Some}
use Rattle.era_base.specs.declared.ids.CmdId.{CmdId}
use Rattle.era_model.specs.declared.flight.FlightWrite.{FlightWrite}
use Rattle.era_model.specs.declared.history.Happening.{Happening}
use Rattle.era_model.specs.declared.opening.Opening.{Opening}
use Rattle.era_model.specs.CommandEvents.{written_block}
use Rattle.era_model.specs.Conditions.{MayBeCut, MayFinish, MayRead, MaySettle, MayStayCut}
use Rattle.era_model.specs.Counts.{CountAscends, PartCountAscends, PartOf}
use Rattle.era_model.specs.Events.{same_id}
use Rattle.era_model.specs.History.{at_opening, content, in_flight}
use Rattle.era_model.specs.Writes.{bytes_of, is_cut, is_cut_at, is_writing, write_of, writes_byte}
use Rattle.era_notes.specs.Logs.{Draw, drawer_history, logged_history, own_draws}
use Rattle.era_notes.specs.OwnDraws.{AreOwnDraws, flights_of}
use Rattle.era_promise.specs.Owners.{stripe_at}
use Rattle.era_promise.proofs.OwnersDraws.{at-log}
use Rattle.era_promise.proofs.WrittenStripes.{AreWritten, FlightsAgree, HasWritten, cut-has, cut-stripe, found-written, has_write, log-written, same-equal, writing-stripe}

-- a write among those of a drawer is among all
writing-more : (drawer_of : ℕ → ℕ) (drawer : ℕ) (writes : List FlightWrite) (id : CmdId) → is_writing (flights_of drawer_of drawer writes) id ≡ true → is_writing writes id ≡ true
writing-more drawer_of drawer [] id is = is
writing-more drawer_of drawer (write ∷ writes) id is =
    let this = same_id write.id id && not write.cut in
    cond_both (drawer_of write.block == drawer) (write ∷ flights_of drawer_of drawer writes) (flights_of drawer_of drawer writes) (λ ws. is_writing ws id ≡ true → is_writing (write ∷ writes) id ≡ true)
    (λ of some. elim (or_cases this (is_writing (flights_of drawer_of drawer writes) id) some) [
      | inl here ↦ or_left this (is_writing writes id) here
      | inr other ↦ or_right this (is_writing writes id) (writing-more drawer_of drawer writes id other)
    ])
    (λ apart some. or_right this (is_writing writes id) (writing-more drawer_of drawer writes id some))
    is

cut-more : (drawer_of : ℕ → ℕ) (drawer : ℕ) (writes : List FlightWrite) (id : CmdId) → is_cut (flights_of drawer_of drawer writes) id ≡ true → is_cut writes id ≡ true
cut-more drawer_of drawer [] id is = is
cut-more drawer_of drawer (write ∷ writes) id is =
    let this = same_id write.id id && write.cut in
    cond_both (drawer_of write.block == drawer) (write ∷ flights_of drawer_of drawer writes) (flights_of drawer_of drawer writes) (λ ws. is_cut ws id ≡ true → is_cut (write ∷ writes) id ≡ true)
    (λ of some. elim (or_cases this (is_cut (flights_of drawer_of drawer writes) id) some) [
      | inl here ↦ or_left this (is_cut writes id) here
      | inr other ↦ or_right this (is_cut writes id) (cut-more drawer_of drawer writes id other)
    ])
    (λ apart some. or_right this (is_cut writes id) (cut-more drawer_of drawer writes id some))
    is

-- a command's write is the same among those of its drawer and among all
found-step : (write : FlightWrite) (writes some : List FlightWrite) (id : CmdId) (this of : Bool) → same_id write.id id ≡ this → (this ≡ true → of ≡ true) → write_of some id ≡ write_of writes id
    → write_of (if of then write ∷ some else some) id ≡ write_of (write ∷ writes) id
found-step write writes some id true true is pass rest = rw is refl
found-step write writes some id true false is pass rest = let never = pass refl in absurd (cc)
found-step write writes some id false true is pass rest = rw is rest
found-step write writes some id false false is pass rest = rw is rest

found-same : (h : List Happening) (drawer_of : ℕ → ℕ) (drawer : ℕ) (writes : List FlightWrite) (id : CmdId) → AreWritten h writes → HasWritten h drawer_of drawer id
    → write_of (flights_of drawer_of drawer writes) id ≡ write_of writes id
found-same h drawer_of drawer [] id are written = refl
found-same h drawer_of drawer (write ∷ writes) id are written =
    found-step write writes (flights_of drawer_of drawer writes) id (same_id write.id id) (drawer_of write.block == drawer) refl
    (λ same.
    let block = same_Some write.block written.block (sym are.0 ∙ ap (written_block h) (same-equal write.id id same) ∙ written.written) in
    eq-eqb (drawer_of write.block) drawer (ap drawer_of block ∙ written.of))
    (found-same h drawer_of drawer writes id are.1 written)

-- a byte of a drawer's block lies in a cut write of the drawer's, if in any
cut-at : (drawer_of : ℕ → ℕ) (drawer : ℕ) (writes : List FlightWrite) (block offset : ℕ) → drawer_of block ≡ drawer → is_cut_at (flights_of drawer_of drawer writes) block offset ≡ is_cut_at writes block offset
cut-at drawer_of drawer [] block offset of = refl
cut-at drawer_of drawer (write ∷ writes) block offset of =
    cond_both (drawer_of write.block == drawer) (write ∷ flights_of drawer_of drawer writes) (flights_of drawer_of drawer writes)
    (λ ws. is_cut_at ws block offset ≡ is_cut_at (write ∷ writes) block offset)
    (λ here. ap (λ b. (write.cut && writes_byte write block offset) || b) (cut-at drawer_of drawer writes block offset of))
    (λ apart. cut-at drawer_of drawer writes block offset of ∙ sym (ap (λ b. b || is_cut_at writes block offset) (elsewhere apart)))
  where
    elsewhere : (drawer_of write.block == drawer) ≡ false → (write.cut && writes_byte write block offset) ≡ false
    elsewhere apart = elim (eqb_tells write.block block) [
      | inl same ↦ let here = eq-eqb (drawer_of write.block) drawer (ap drawer_of same.1 ∙ of) in let never : false ≡ true = sym apart ∙ here in absurd (cc)
      | inr other ↦ elim write.cut as (λ (cut : Bool). (cut && writes_byte write block offset) ≡ false) [
        | true ↦ rw other.0 refl
        | false ↦ refl
      ]
    ]

-- What the laws of notes say of a drawer's own draws.
pub record Laws : Type 0 where
  pub flights : FlightsAgree
  pub contents : (opening : Opening) (drawer_of : ℕ → ℕ) (log : List Draw) (block : ℕ) → AreOwnDraws opening drawer_of log → content (logged_history opening log) block ≡ content (drawer_history opening (drawer_of block) log) block

-- what stands at the opening
pub opening-same : {T : Type 0} (none : T) (of : Opening → T) (opening : Opening) (drawer : ℕ) (log : List Draw) → at_opening none of (logged_history opening log) ≡ at_opening none of (drawer_history opening drawer log)
opening-same none of opening drawer log = at-log none of opening log ∙ sym (at-log none of opening (own_draws drawer log))

-- a write that ends, or is cut
pub done-whole : Laws → (opening : Opening) (log : List Draw) (drawer : ℕ) (id : CmdId) → AreOwnDraws opening (stripe_at opening) log → is_writing (in_flight (drawer_history opening drawer log)) id ≡ true
    → MayFinish (logged_history opening log) id
done-whole laws opening log drawer id owns is = record {
  writing = writing-more (stripe_at opening) drawer (in_flight (logged_history opening log)) id (ap (λ writes. is_writing writes id) (laws.flights opening (stripe_at opening) log drawer owns) ∙ is);
}

pub cut-whole : Laws → (opening : Opening) (log : List Draw) (drawer : ℕ) (id : CmdId) (faults : ℕ) → AreOwnDraws opening (stripe_at opening) log → is_writing (in_flight (drawer_history opening drawer log)) id ≡ true
    → CountAscends (logged_history opening log) (PartOf drawer) faults → MayBeCut (logged_history opening log) id faults
cut-whole laws opening log drawer id faults owns is rose = record {
  writing = (done-whole laws opening log drawer id owns is).writing;
  rose = subst (λ stripe. PartCountAscends (logged_history opening log) stripe faults) (sym (writing-stripe laws.flights opening log drawer id owns is)) rose;
}

-- a cut write that stays so, or is resolved
pending-whole : Laws → (opening : Opening) (log : List Draw) (drawer : ℕ) (cut : CmdId) → AreOwnDraws opening (stripe_at opening) log → is_cut (in_flight (drawer_history opening drawer log)) cut ≡ true
    → is_cut (in_flight (logged_history opening log)) cut ≡ true
pending-whole laws opening log drawer cut owns is =
    cut-more (stripe_at opening) drawer (in_flight (logged_history opening log)) cut (ap (λ writes. is_cut writes cut) (laws.flights opening (stripe_at opening) log drawer owns) ∙ is)

pub unsettled-whole : Laws → (opening : Opening) (log : List Draw) (drawer : ℕ) (cut : CmdId) (faults : ℕ) → AreOwnDraws opening (stripe_at opening) log → is_cut (in_flight (drawer_history opening drawer log)) cut ≡ true
    → CountAscends (logged_history opening log) (PartOf drawer) faults → MayStayCut (logged_history opening log) cut faults
unsettled-whole laws opening log drawer cut faults owns is rose = record {
  pending = pending-whole laws opening log drawer cut owns is;
  rose = subst (λ stripe. PartCountAscends (logged_history opening log) stripe faults) (sym (cut-stripe laws.flights opening log drawer cut owns is)) rose;
}

pub settled-whole : Laws → (opening : Opening) (log : List Draw) (drawer : ℕ) (cut : CmdId) (bytes : List ℕ) → AreOwnDraws opening (stripe_at opening) log → MaySettle (drawer_history opening drawer log) cut bytes
    → MaySettle (logged_history opening log) cut bytes
settled-whole laws opening log drawer cut bytes owns may =
    let h = logged_history opening log in
    let same = laws.flights opening (stripe_at opening) log drawer owns in
    let are = log-written opening (stripe_at opening) log owns in
    let written = found-written h (stripe_at opening) drawer (in_flight h) cut are (ap (λ writes. has_write writes cut) same ∙ cut-has (in_flight (drawer_history opening drawer log)) cut may.pending) in
    record {
      pending = pending-whole laws opening log drawer cut owns may.pending;
      size = may.size ∙ ap (λ write. length (bytes_of write)) (ap (λ writes. write_of writes cut) (sym same) ∙ found-same h (stripe_at opening) drawer (in_flight h) cut are written);
    }

-- a read of a block of its own
pub read-whole : Laws → (opening : Opening) (log : List Draw) (drawer sector : ℕ) (bytes : List ℕ) → AreOwnDraws opening (stripe_at opening) log → (may : MayRead (drawer_history opening drawer log) sector bytes) → stripe_at opening may.block ≡ drawer
    → MayRead (logged_history opening log) sector bytes
read-whole laws opening log drawer sector bytes owns may of = record {
  whole = may.whole;
  block = may.block;
  first = may.first;
  place = opening-same _ _ opening drawer log ∙ may.place;
  same = λ known offset within clear.
      may.same (sym (opening-same _ _ opening drawer log) ∙ known) offset within
      (ap (λ writes. is_cut_at writes may.block (may.first * 512 + offset)) (sym (laws.flights opening (stripe_at opening) log drawer owns))
      ∙ cut-at (stripe_at opening) drawer (in_flight (logged_history opening log)) may.block (may.first * 512 + offset) of ∙ clear)
      ∙ ap (λ (contents : List ℕ). slice_index contents (may.first * 512 + offset))
      (sym (laws.contents opening (stripe_at opening) log may.block owns ∙ ap (λ d. content (drawer_history opening d log) may.block) of));
}
