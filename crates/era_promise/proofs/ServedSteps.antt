-- What a session that was served leaves: by its own history where it is the first one, else behind the sessions before it.
use Rattle.std.proofs.Common.{◌≡◌, ℕ, ◌<◌, true, List, [], ◌∷◌, length, take, Option, Some, None, ◌⊎◌, refl, ap, sym, ◌∙◌, subst, inl, inr}
use Rattle.era_base.specs.CrashModel.{IsCrashImage}
use Rattle.era_base.specs.declared.geometry.Geometry.{Geometry}
use Rattle.era_base.specs.declared.limits.TheConstants.{LAST_ERA}
use Rattle.era_model.specs.declared.history.Happening.{Happening}
use Rattle.era_model.specs.declared.history.Happening.TheVariants.{Opened, Crashed}
use Rattle.era_model.specs.declared.history.Images.{Images}
use Rattle.era_model.specs.declared.journal.Journal.{Journal}
use Rattle.era_model.specs.declared.opening.Opening.{Opening}
use Rattle.era_model.specs.Changed.{IsCrashContent}
use Rattle.era_model.specs.Crashes.{IsReopening, MayCrash}
use Rattle.era_model.specs.History.{at_opening, contents_of, is_open, known_bytes}
use Rattle.era_model.specs.Journal.{history_after}
use Rattle.era_model.specs.Legal.{IsLegal, IsOpening}
use Rattle.era_model.specs.Marks.{BlockMarks, rolled}
use Rattle.era_model.specs.Writes.{block_bytes}
use Rattle.era_promise.specs.Calls.{Disks, EndedCall, GoesOn, IsClosed, IsHistoryOf, EndsSession, blocks_in, served}
use Rattle.era_promise.proofs.Left.{MayBeFound, found_images}
use Rattle.era_promise.specs.Openings.{IsOpenedOn, opening_of}
use Rattle.era_promise.specs.Sessions.{SessionDevices, history_below, whole_history}
use Rattle.era_promise.specs.Survival.{JointCrash}
use Rattle.era_promise.proofs.BeforeOrNext.{rolled-era}
use Rattle.era_promise.proofs.CallSteps.{AreLeft, HasHistory, Laws, at-after, open-after}
use Rattle.era_promise.proofs.Places.{moment-begun, moment-below}
use Rattle.era_promise.proofs.Survives.{crash-contents, crash-recovered}

-- An opening is one over some marks, with these numbers and contents.
pub record IsOver (g : Geometry) (metadata_blocks : ℕ) (bytes : List ℕ) (opening : Opening) : Type 0 where
  pub geometry : opening.geometry ≡ g
  pub total : opening.total ≡ metadata_blocks
  pub contents : opening.contents.bytes ≡ Some bytes

is-over : (g : Geometry) (metadata_blocks stripes : ℕ) (bytes : List ℕ) (opening : Opening) (marks : BlockMarks) (held : Option BlockMarks) → opening ≡ opening_of g marks held metadata_blocks stripes bytes
    → IsOver g metadata_blocks bytes opening
is-over g metadata_blocks stripes bytes opening marks held is = record {
  geometry = ap (λ (o : Opening). o.geometry) is;
  total = ap (λ (o : Opening). o.total) is;
  contents = ap (λ (o : Opening). o.contents.bytes) is;
}

opened-over : (StandsFor : List ℕ → BlockMarks → Option BlockMarks → Type 0) (IsBlank : List ℕ → Type 0) (g : Geometry) (seen bytes : List ℕ) (metadata_blocks stripes : ℕ) (opening : Opening)
    → IsOpenedOn StandsFor IsBlank g seen bytes metadata_blocks stripes opening → IsOver g metadata_blocks bytes opening
opened-over StandsFor IsBlank g seen bytes metadata_blocks stripes opening opened = elim opened.some [
  | inl some ↦ is-over g metadata_blocks stripes bytes opening _ _ (opened.marks some.0 some.1 some.2).1
  | inr blank ↦ is-over g metadata_blocks stripes bytes opening _ _ (opened.blank blank)
]

-- the session by itself may leave what is found
alone-found : (StandsFor : List ℕ → BlockMarks → Option BlockMarks → Type 0) (IsBlank : List ℕ → Type 0) (g : Geometry) (metadata_blocks : ℕ) (before after : Disks) (journal : Journal) (devices : SessionDevices) (place : ℕ)
    (origin metadata : List ℕ) (m : BlockMarks) (found : Option BlockMarks) → EndsSession StandsFor IsBlank g metadata_blocks before journal devices place after
    → IsCrashImage after.origin origin → IsCrashImage after.metadata metadata → StandsFor metadata m found → MayCrash (history_below journal place) (found_images origin m found)
alone-found StandsFor IsBlank g metadata_blocks before after journal devices place origin metadata m found leaves origin_may may stands =
    let over = opened-over StandsFor IsBlank g before.metadata.seen before.origin.seen metadata_blocks journal.opening.stripes journal.opening leaves.opened in
    let first = Opened journal.opening ∷ [] in
    let crash : JointCrash StandsFor devices place (blocks_in g origin) m found
    = record { origin = leaves.origin origin origin_may; image = metadata; left = leaves.metadata metadata may; stands = stands } in
    let contents : at_opening [] contents_of (history_below journal place) ≡ before.origin.seen = at-after [] contents_of first (take place journal.entries) ∙ ap known_bytes over.contents in
    let sectors : at_opening 0 (λ o. o.geometry.block_sectors) (history_below journal place) ≡ g.block_sectors
    = at-after 0 (λ o. o.geometry.block_sectors) first (take place journal.entries) ∙ ap (λ (one : Geometry). one.block_sectors) over.geometry in
    record {
      origin = record {
        size = origin_may.size ∙ leaves.size ∙ sym (ap length contents);
        blocks = λ block inside.
            subst (λ size. IsCrashContent (history_below journal place) block (block_bytes size origin block)) (sym sectors)
            (crash-contents StandsFor journal devices place (blocks_in g origin) m found leaves.follow leaves.within crash block inside);
      };
      metadata = crash-recovered StandsFor journal devices place (blocks_in g origin) m found leaves.follow leaves.within crash;
    }

-- what is found behind an opening with these numbers
behind-found : (g : Geometry) (metadata_blocks : ℕ) (bytes : List ℕ) (opening : Opening) (closed : List Happening) (journal : Journal) (place : ℕ) (origin : List ℕ) (m : BlockMarks) (found : Option BlockMarks)
    → IsOver g metadata_blocks bytes opening → MayCrash (history_after (Opened opening ∷ closed) (take place journal.entries)) (found_images origin m found)
    → MayBeFound g metadata_blocks (history_after (Opened opening ∷ closed) (take place journal.entries)) origin m found
behind-found g metadata_blocks bytes opening closed journal place origin m found over crash = record {
  ongoing = open-after (Opened opening ∷ closed) (take place journal.entries);
  crash = crash;
  geometry = at-after None (λ o. Some o.geometry) (Opened opening ∷ closed) (take place journal.entries) ∙ ap Some over.geometry;
  total = at-after 0 (λ o. o.total) (Opened opening ∷ closed) (take place journal.entries) ∙ over.total;
}

-- an open history is closed by a crash
closed-by : (h : List Happening) (images : Images) → is_open h ≡ true → IsClosed h (Crashed images ∷ h)
closed-by [] images ongoing = absurd (cc)
closed-by (happening ∷ h) images ongoing = (images, refl)

-- a first session, and one behind others
pub session-left : Laws → (StandsFor : List ℕ → BlockMarks → Option BlockMarks → Type 0) (IsBlank : List ℕ → Type 0) (g : Geometry) (metadata_blocks : ℕ) (calls : List EndedCall) (call : EndedCall) (before : Disks)
    (journal : Journal) (devices : SessionDevices) (place : ℕ) → call.outcome ≡ served journal devices place → EndsSession StandsFor IsBlank g metadata_blocks before journal devices place call.disks
    → IsHistoryOf calls [] ⊎ AreLeft StandsFor g metadata_blocks calls before → AreLeft StandsFor g metadata_blocks (call ∷ calls) call.disks
session-left laws StandsFor IsBlank g metadata_blocks calls call before journal devices place is leaves earlier = record {
  stands = λ image may. (leaves.follow.metadata place leaves.within).stands image (leaves.metadata image may);
  histories = λ origin metadata m found origin_may may stands.
      let alone = alone-found StandsFor IsBlank g metadata_blocks before call.disks journal devices place origin metadata m found leaves origin_may may stands in
      elim earlier [
        | inl none ↦ record {
          history = history_below journal place;
          of = ([], none, subst (λ outcome. GoesOn outcome [] (history_below journal place)) (sym is) ([], refl, refl));
          legal = legal;
          left = behind-found g metadata_blocks before.origin.seen journal.opening [] journal place origin m found over alone;
        }
        | inr left ↦
            let seen = left.stands before.metadata.seen (laws.reads before.metadata) in
            let had = left.histories before.origin.seen before.metadata.seen seen.0 seen.1 (laws.reads before.origin) (laws.reads before.metadata) seen.2 in
            let images = found_images before.origin.seen seen.0 seen.1 in
            let closed = Crashed images ∷ had.history in
            record {
              history = history_after (Opened journal.opening ∷ closed) (take place journal.entries);
              of = (
                had.history,
                had.of,
                subst (λ outcome. GoesOn outcome had.history (history_after (Opened journal.opening ∷ closed) (take place journal.entries))) (sym is)
                    (closed, closed-by had.history images had.left.ongoing, refl),
              );
              legal = laws.behind journal.opening closed (take place journal.entries)
                  (reopens had seen.0 seen.1 (leaves.opened.marks seen.0 seen.1 seen.2), (had.left.ongoing, had.left.crash, had.legal)) legal;
              left = behind-found g metadata_blocks before.origin.seen journal.opening closed journal place origin m found over
                  (laws.crash journal.opening closed (take place journal.entries) (found_images origin m found) alone);
            }
      ];
}
  where
    over : IsOver g metadata_blocks before.origin.seen journal.opening
    over = opened-over StandsFor IsBlank g before.metadata.seen before.origin.seen metadata_blocks journal.opening.stripes journal.opening leaves.opened

    legal : IsLegal (history_below journal place)
    legal = laws.moments (whole_history journal) (history_below journal place) leaves.follow.legal.legal (moment-below journal place)

    opens : IsOpening journal.opening
    opens = (laws.moments (history_below journal place) (Opened journal.opening ∷ []) legal (moment-begun (Opened journal.opening ∷ []) (take place journal.entries))).0

    reopens : {m : BlockMarks} {held : Option BlockMarks} (had : HasHistory g metadata_blocks calls before.origin.seen m held) (m' : BlockMarks) (held' : Option BlockMarks)
        → (m'.era < LAST_ERA) × (journal.opening ≡ opening_of g (rolled m') held' metadata_blocks journal.opening.stripes before.origin.seen)
        → IsReopening had.history (found_images before.origin.seen m' held') journal.opening
    reopens had m' held' opened = subst (λ (o : Opening). IsReopening had.history (found_images before.origin.seen m' held') o) (sym opened.1) (record {
      below_last = opened.0;
      era = rolled-era m';
      marks = refl;
      held = refl;
      geometry = had.left.geometry;
      total = sym had.left.total;
      contents = refl;
      some_stripe = opens.some_stripe;
      few_stripes = opens.few_stripes;
    })
