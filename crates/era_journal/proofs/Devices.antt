-- Owners that stand have kept their devices, and what the metadata disk ends with is durable by the whole journal.
use Rattle.std.proofs.Common.{◌≡◌, ℕ, ◌<◌, Bool, true, List, [], ◌∷◌, Option, None, Some, refl, ap, sym, ◌∙◌, subst, arith}
use Rattle.std.proofs.Math.Seq.{take-length}
use Rattle.std.specs.Prelude.{map, option_map, slice_get}
use Rattle.std.proofs.lemmas.Option.{same_Some, slice_get-map, slice_get_within}
use Rattle.era_base.specs.CrashModel.{clock}
use Rattle.era_gate.specs.Acts.{Act}
use Rattle.era_journal.specs.ActsLog.{log_of}
use Rattle.era_journal.specs.OwnersStand.{OwnersStand, StandsAt}
use Rattle.era_journal.specs.SeenDevices.{StandsForMarks, devices_seen, metadata_seen, part_seen}
use Rattle.era_journal.proofs.Ranges.{range-covers, range-stripe, stripe-low}
use Rattle.era_journal.proofs.Stands.{Laws, keeper-own, stripe-own, view-at}
use Rattle.era_keeper.specs.Keepers.{KeeperView}
use Rattle.era_keeper.specs.Recovery.{LeavesDurable, LeavesRecovered}
use Rattle.era_meta.specs.Meaning.{IsImageOf, Meaning}
use Rattle.era_model.specs.declared.history.Happening.TheVariants.{Opened}
use Rattle.era_model.specs.declared.journal.Journal.{Journal}
use Rattle.era_model.specs.declared.opening.Opening.{Opening}
use Rattle.era_model.specs.History.{stripe_now}
use Rattle.era_model.specs.Journal.{history_after}
use Rattle.era_model.specs.Legal.{IsLegalJournal}
use Rattle.era_model.specs.Marks.{BlockMarks}
use Rattle.era_model.specs.Recovered.{IsDurableFrom}
use Rattle.era_notes.specs.Logs.{Draw, drawer_history, logged_history}
use Rattle.era_notes.specs.Notes.{Note, own_history}
use Rattle.era_notes.specs.OwnDraws.{AreOwnDraws, StripesDraw}
use Rattle.era_notes.proofs.Windows.{through-wider}
use Rattle.era_promise.specs.Owners.{AreOwnersDraws, KeepsMetadata, KeepsPart, LeavesMarks, OwnersKeep, logged_entries, stripe_at}
use Rattle.era_promise.specs.Sessions.{EndsDurable, IsPartAt, PartDevice, PartsCover, whole_history}
use Rattle.era_promise.proofs.LogPlaces.{whole-log}
use Rattle.era_promise.proofs.WrittenStripes.{stripe-log}
use Rattle.era_stripe.specs.Stripes.{StripeView}

-- the history of the whole journal
whole-by : (journal : Journal) (log : List Draw) → journal.entries ≡ logged_entries log → whole_history journal ≡ logged_history journal.opening log
whole-by journal log entries = ap (history_after (Opened journal.opening ∷ [])) (take-length journal.entries ∙ entries) ∙ whole-log journal.opening log

-- the part of a stripe is that of what is seen of it
seen-part : (found : Option StripeView) (one : PartDevice) → option_map part_seen found ≡ Some one → (view : StripeView) × (found ≡ Some view) × (part_seen view ≡ one)
seen-part None one is = absurd (cc)
seen-part (Some view) one is = (view, refl, same_Some (part_seen view) one is)

part-view : (views : List StripeView) (stripe : ℕ) (one : PartDevice) → slice_get (map part_seen views) stripe ≡ Some one → (view : StripeView) × (slice_get views stripe ≡ Some view) × (part_seen view ≡ one)
part-view views stripe one is = seen-part (slice_get views stripe) one (sym (slice_get-map part_seen views stripe) ∙ is)

-- a stripe has kept its part
keeps-part : Laws → (opening : Opening) (acts : List Act) (stripe : ℕ) (view : StripeView) → stripe < opening.stripes → StandsAt true opening acts stripe view → KeepsPart opening (log_of opening.stripes acts) stripe (part_seen view)
keeps-part laws opening acts stripe view low at = record {
  of_stripe = λ block inside. range-stripe opening stripe view.part block at.range inside;
  own = stripe-own laws true opening acts stripe view low at;
  through = at.stands.through refl;
}

-- the keeper has kept the metadata disk
keeps-metadata : Laws → (opening : Opening) (acts : List Act) (views : List StripeView) (keeper : KeeperView) → OwnersStand true opening acts views keeper
    → KeepsMetadata StandsForMarks opening (log_of opening.stripes acts) opening.stripes (metadata_seen keeper)
keeps-metadata laws opening acts views keeper stand = record {
  own = keeper-own laws true opening acts views keeper stand;
  through = through-wider (λ (notes : List Note). LeavesRecovered (own_history opening notes)) (λ (notes : List Note). LeavesMarks StandsForMarks (own_history opening notes))
      keeper.history keeper.begun (clock keeper.history) keeper.notes
      (λ notes state leaves image crash. let found = leaves image crash in (found.0.marks, found.0.held, found.1, found.2))
      (stand.keeper.through refl);
}

-- each block lies in the part of its stripe
covers : (journal : Journal) (acts : List Act) (views : List StripeView) (keeper : KeeperView) → OwnersStand true journal.opening acts views keeper → journal.entries ≡ logged_entries (log_of journal.opening.stripes acts)
    → PartsCover journal (devices_seen views keeper)
covers journal acts views keeper stand entries block below =
    let opening = journal.opening in
    let stripe = stripe_at opening block in
    let some = stand.keeper.opens.some_stripe in
    let found = view-at views opening.stripes stripe stand.size (stripe-low opening block some below).1 in
    let same : stripe_now (whole_history journal) block ≡ stripe_at opening block
    = ap (λ h. stripe_now h block) (whole-by journal (log_of opening.stripes acts) entries) ∙ stripe-log opening (log_of opening.stripes acts) block in
    let at : slice_get (map part_seen views) stripe ≡ Some (part_seen found.0) = slice_get-map part_seen views stripe ∙ ap (option_map part_seen) found.1 in (
      part_seen found.0,
      subst (λ s. IsPartAt (devices_seen views keeper) s (part_seen found.0)) (sym same) at,
      range-covers opening found.0.part block some below (stand.stripes stripe found.0 found.1).range,
    )

pub devices-kept : Laws → (journal : Journal) (acts : List Act) (views : List StripeView) (keeper : KeeperView) → OwnersStand true journal.opening acts views keeper → journal.entries ≡ logged_entries (log_of journal.opening.stripes acts)
    → IsLegalJournal journal → AreOwnDraws journal.opening (stripe_at journal.opening) (log_of journal.opening.stripes acts) → AreOwnersDraws journal.opening.stripes journal.opening (log_of journal.opening.stripes acts)
    → OwnersKeep StandsForMarks journal (devices_seen views keeper) journal.opening.stripes (log_of journal.opening.stripes acts)
devices-kept laws journal acts views keeper stand entries legal owns draws = record {
  legal = legal;
  entries = entries;
  owns = owns;
  draws = draws;
  cover = covers journal acts views keeper stand entries;
  parts = λ stripe one is.
      let found = part-view views stripe one is in
      let inside = slice_get_within views stripe found.0 found.1 in
      let low : stripe < journal.opening.stripes = (let size = stand.size in omega (arith, inside, size)) in
      (low, subst (KeepsPart journal.opening (log_of journal.opening.stripes acts) stripe) found.2 (keeps-part laws journal.opening acts stripe found.0 low (stand.stripes stripe found.0 found.1)));
  metadata = keeps-metadata laws journal.opening acts views keeper stand;
}

-- An image stands for one meaning at most.
abbrev pub OneMeaning : Type 0
OneMeaning = (one two : Meaning) (image : List ℕ) → IsImageOf one image → IsImageOf two image → one ≡ two

-- What is durable by the keeper's own draws is durable by the whole log.
abbrev pub DurableAgree : Type 0
DurableAgree = (opening : Opening) (keeper : ℕ) (log : List Draw) (m : BlockMarks) (found : Option BlockMarks) → StripesDraw keeper log → IsDurableFrom (drawer_history opening keeper log) m found → IsDurableFrom (logged_history opening log) m found

-- the end of the metadata disk
pub ends-durable : Laws → OneMeaning → DurableAgree → (tells : Bool) (journal : Journal) (acts : List Act) (views : List StripeView) (keeper : KeeperView) → OwnersStand tells journal.opening acts views keeper
    → journal.entries ≡ logged_entries (log_of journal.opening.stripes acts) → StripesDraw journal.opening.stripes (log_of journal.opening.stripes acts) → LeavesDurable (own_history journal.opening keeper.notes) keeper.history.now
    → EndsDurable StandsForMarks journal (metadata_seen keeper)
ends-durable laws one durable tells journal acts views keeper stand entries draws leaves = record {
  stands = λ image crash. let found = leaves image crash in (found.0.marks, found.0.held, found.1);
  durable = λ image m held crash stands.
      let found = leaves image crash in
      let same : found.0 ≡ record { marks = m; held = held } = one found.0 (record { marks = m; held = held }) image found.1 stands in
      let own : IsDurableFrom (own_history journal.opening keeper.notes) m held
      = subst (λ (meaning : Meaning). IsDurableFrom (own_history journal.opening keeper.notes) meaning.marks meaning.held) same found.2 in
      let log = log_of journal.opening.stripes acts in
      let agree = laws.histories journal.opening journal.opening.stripes log keeper.notes (keeper-own laws tells journal.opening acts views keeper stand) in
      subst (λ h. IsDurableFrom h m held) (sym (whole-by journal log entries))
      (durable journal.opening journal.opening.stripes log m held draws (subst (λ h. IsDurableFrom h m held) agree own));
}
