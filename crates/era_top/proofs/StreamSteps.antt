-- What one command more of a stream changes in what its lists have to name.
use Rattle.std.proofs.Common.{◌≡◌, ℕ, suc, ◌+◌, ◌<◌, ◌≤◌, Bool, true, false, ◌==◌, List, [], ◌∷◌, ◌++◌, length, Some, None, refl, ap, sym, ◌∙◌, subst, inl, inr, ◌⊎◌, arith, append_assoc}
use Rattle.std.specs.Prelude.{max, sum_by, if◌then◌else◌}
use Rattle.std.proofs.lemmas.Bool.Decides.{eqb_tells}
use Rattle.std.proofs.lemmas.List.Sums.{sum_by-cons, sum_by_push}
use Rattle.era_base.specs.declared.geometry.Geometry.{Geometry}
use Rattle.era_base.specs.Geometry.{blocks_of}
use Rattle.era_model.specs.declared.history.Happening.{Happening}
use Rattle.era_model.specs.declared.command.Command.{Command}
use Rattle.era_model.specs.declared.command.Request.TheVariants.{List as ListRequest}
use Rattle.era_model.specs.declared.command.Task.TheVariants.{Ask}
use Rattle.era_model.specs.Commands.{events_of, answer_of}
use Rattle.era_model.specs.Marking.{journal_last_era}
use Rattle.era_model.specs.StreamLists.{block_written, era_behind, is_checkpoint, IsListAnswer, IsWrittenSince, ListsNameWritten}
use Rattle.era_model.specs.declared.command.Task.{Task}
use Rattle.era_top.specs.Runs.{command_of, commands_from, lane_zero, MarksWritten}

-- The last of some commands stands at the split, or the split is among the others.
pub data SplitLast (commands : List Command) (last : Command) (before : List Command) (at : Command) (after : List Command) : Type 0 where
  IsLast : before ≡ commands → at ≡ last → SplitLast commands last before at after
  IsEarlier : (rest : List Command) → commands ≡ before ++ at ∷ rest → SplitLast commands last before at after

pub never-empty : (front : List Command) (at : Command) (after : List Command) → [] ≡ front ++ at ∷ after → ⊥
never-empty [] at after e = absurd (cc)
never-empty (first ∷ front) at after e = absurd (cc)

split-more : (first : Command) (commands : List Command) (last : Command) (before : List Command) (at : Command) (after : List Command) → SplitLast commands last before at after
    → SplitLast (first ∷ commands) last (first ∷ before) at after
split-more first commands last before at after (IsLast b a) = IsLast (ap (λ l. first ∷ l) b) a
split-more first commands last before at after (IsEarlier rest e) = IsEarlier rest (ap (λ l. first ∷ l) e)

pub split-last : (commands : List Command) (last : Command) (before : List Command) (at : Command) (after : List Command) → commands ++ last ∷ [] ≡ before ++ at ∷ after
    → SplitLast commands last before at after
split-last [] last [] at after e = IsLast refl cc
split-last [] last (first ∷ before) at after e = let rest : [] ≡ before ++ at ∷ after = cc in absurd (never-empty before at after rest)
split-last (first ∷ commands) last [] at after e = let same : first ≡ at = cc in IsEarlier commands (ap (λ c. c ∷ commands) same)
split-last (first ∷ commands) last (other ∷ before) at after e =
    let same : other ≡ first = cc in
    let rest : commands ++ last ∷ [] ≡ before ++ at ∷ after = cc in
    subst (λ c. SplitLast (first ∷ commands) last (c ∷ before) at after) (sym same) (split-more first commands last before at after (split-last commands last before at after rest))

-- what was written stays written
pub written-more : (g : Geometry) (commands : List Command) (last : Command) (since block : ℕ) → IsWrittenSince g commands since block → IsWrittenSince g (commands ++ last ∷ []) since block
written-more g commands last since block written = record {
  before = written.before;
  write = written.write;
  after = written.after ++ last ∷ [];
  among = ap (λ all. all ++ last ∷ []) written.among ∙ append_assoc written.before (written.write ∷ written.after) (last ∷ []);
  in_range = written.in_range;
  era = written.era;
}

-- what the last of some commands wrote, or another one
written-split : (g : Geometry) (commands : List Command) (last : Command) (since block : ℕ) (written : IsWrittenSince g (commands ++ last ∷ []) since block)
    → SplitLast commands last written.before written.write written.after
    → ((block_written g last.task ≡ Some block) × (max since 1 ≤ era_behind commands)) ⊎ IsWrittenSince g commands since block
written-split g commands last since block written (IsLast b a) =
    inl (sym (ap (λ c. block_written g c.task) a) ∙ written.in_range, subst (λ l. max since 1 ≤ era_behind l) b written.era)
written-split g commands last since block written (IsEarlier rest e) = inr (record {
  before = written.before;
  write = written.write;
  after = rest;
  among = e;
  in_range = written.in_range;
  era = written.era;
})

pub written-last : (g : Geometry) (commands : List Command) (last : Command) (since block : ℕ) → IsWrittenSince g (commands ++ last ∷ []) since block
    → ((block_written g last.task ≡ Some block) × (max since 1 ≤ era_behind commands)) ⊎ IsWrittenSince g commands since block
written-last g commands last since block written =
    written-split g commands last since block written (split-last commands last written.before written.write written.after written.among)

-- a command that writes nothing in range leaves what was written
pub written-none : (g : Geometry) (commands : List Command) (last : Command) (since block : ℕ) → block_written g last.task ≡ None
    → IsWrittenSince g (commands ++ last ∷ []) since block → IsWrittenSince g commands since block
written-none g commands last since block none written = elim (written-last g commands last since block written) [
  | inl here ↦ let e = here.0 in absurd (cc)
  | inr there ↦ there
]

-- the last command writes the block
pub written-now : (g : Geometry) (commands : List Command) (last : Command) (since block : ℕ) → block_written g last.task ≡ Some block → max since 1 ≤ era_behind commands
    → IsWrittenSince g (commands ++ last ∷ []) since block
written-now g commands last since block is era = record { before = commands; write = last; after = []; among = refl; in_range = is; era = era }

-- the era behind one command more
era_behind-push : (commands : List Command) (last : Command) → era_behind (commands ++ last ∷ []) ≡ (if is_checkpoint last.task then 1 else 0) + era_behind commands
era_behind-push commands last = let more = sum_by_push (λ command. if is_checkpoint command.task then 1 else 0) commands last in omega (arith, more)

pub era_behind-same : (commands : List Command) (last : Command) → is_checkpoint last.task ≡ false → era_behind (commands ++ last ∷ []) ≡ era_behind commands
era_behind-same commands last none = era_behind-push commands last ∙ ap (λ b. (if b then 1 else 0) + era_behind commands) none ∙ omega arith

pub era_behind-next : (commands : List Command) (last : Command) → is_checkpoint last.task ≡ true → era_behind (commands ++ last ∷ []) ≡ era_behind commands + 1
era_behind-next commands last is = era_behind-push commands last ∙ ap (λ b. (if b then 1 else 0) + era_behind commands) is ∙ omega arith

-- at most one checkpoint a command
pub era_behind-few : (commands : List Command) → era_behind commands ≤ length commands + 1
era_behind-few [] = omega arith
era_behind-few (command ∷ commands) =
    let rest = era_behind-few commands in
    let more = sum_by-cons (λ c. if is_checkpoint c.task then 1 else 0) command commands in
    few (is_checkpoint command.task) (sum_by (λ c. if is_checkpoint c.task then 1 else 0) commands) (sum_by (λ c. if is_checkpoint c.task then 1 else 0) (command ∷ commands)) (length commands) more rest
  where
    few : (b : Bool) (sum all count : ℕ) → all ≡ (if b then 1 else 0) + sum → sum + 1 ≤ count + 1 → all + 1 ≤ suc count + 1
    few true sum all count is less = omega (arith, is, less)
    few false sum all count is less = omega (arith, is, less)

-- a command that writes nothing in range, with the era behind it
pub stream-quiet : (g : Geometry) (commands : List Command) (last : Command) (era era' : ℕ) (h h' : List Happening) → MarksWritten g commands era h
    → block_written g last.task ≡ None → era' ≡ era_behind (commands ++ last ∷ []) → era ≤ era' → ((block : ℕ) → journal_last_era h' block ≡ journal_last_era h block)
    → MarksWritten g (commands ++ last ∷ []) era' h'
stream-quiet g commands last era era' h h' stream none behind later same = record {
  stream_era = behind;
  written = λ since block. (
    (λ less. written-more g commands last since block ((stream.written since block).0 (let e = same block in omega arith))),
    (λ written. let less = (stream.written since block).1 (written-none g commands last since block none written) in let e = same block in omega arith),
  );
  bounded = λ block. let e = same block in let b = stream.bounded block in omega arith;
  within = λ block past. same block ∙ stream.within block past;
}

-- a write in range, after which its block's last marked era is the present one
pub stream-write : (g : Geometry) (commands : List Command) (last : Command) (era at : ℕ) (h h' : List Happening) → MarksWritten g commands era h
    → block_written g last.task ≡ Some at → is_checkpoint last.task ≡ false → at < blocks_of g.sectors g.block_sectors
    → ((block : ℕ) → journal_last_era h' block ≡ (if at == block then era else journal_last_era h block))
    → MarksWritten g (commands ++ last ∷ []) era h'
stream-write g commands last era at h h' stream is none inside lasts = record {
  stream_era = stream.stream_era ∙ sym (era_behind-same commands last none);
  written = λ since block. (
    (λ less. elim (eqb_tells at block) [
      | inl same ↦
          let now : journal_last_era h' block ≡ era = rw same.0 at (lasts block) in
          written-now g commands last since block (is ∙ ap (λ b. Some b) same.1) (let e = stream.stream_era in omega arith)
      | inr apart ↦
          let kept : journal_last_era h' block ≡ journal_last_era h block = rw apart.0 at (lasts block) in
          written-more g commands last since block ((stream.written since block).0 (omega arith))
    ]),
    (λ written. elim (eqb_tells at block) [
      | inl same ↦
          let now : journal_last_era h' block ≡ era = rw same.0 at (lasts block) in
          elim (written-last g commands last since block written) [
            | inl here ↦ (let e = here.1 in let s = stream.stream_era in omega arith)
            | inr there ↦ (let e = (stream.written since block).1 there in let b = stream.bounded block in omega arith)
          ]
      | inr apart ↦
          let kept : journal_last_era h' block ≡ journal_last_era h block = rw apart.0 at (lasts block) in
          elim (written-last g commands last since block written) [
            | inl here ↦ absurd (apart.1 (let e : Some at ≡ Some block = sym is ∙ here.0 in cc))
            | inr there ↦ (let e = (stream.written since block).1 there in omega arith)
          ]
    ]),
  );
  bounded = λ block. elim (eqb_tells at block) [
    | inl same ↦ (let now : journal_last_era h' block ≡ era = rw same.0 at (lasts block) in omega arith)
    | inr apart ↦ (let kept : journal_last_era h' block ≡ journal_last_era h block = rw apart.0 at (lasts block) in let b = stream.bounded block in omega arith)
  ];
  within = λ block past. elim (eqb_tells at block) [
    | inl same ↦ absurd (let e = same.1 in omega arith)
    | inr apart ↦ (let kept : journal_last_era h' block ≡ journal_last_era h block = rw apart.0 at (lasts block) in kept ∙ stream.within block past)
  ];
}

-- a command among those of some tasks is one of their numbers
pub command-number : (number : ℕ) (tasks : List Task) (before : List Command) (at : Command) (after : List Command) → commands_from number tasks ≡ before ++ at ∷ after
    → (m : ℕ) × (m < number + length tasks) × (at.id ≡ lane_zero m)
command-number number [] before at after e = absurd (never-empty before at after e)
command-number number (task ∷ tasks) [] at after e =
    let same : command_of number task ≡ at = cc in
    (number, (omega arith), sym (ap (λ c. c.id) same))
command-number number (task ∷ tasks) (first ∷ before) at after e =
    let rest : commands_from (number + 1) tasks ≡ before ++ at ∷ after = cc in
    let found = command-number (number + 1) tasks before at after rest in
    (found.0, (let less = found.1 in omega arith), found.2)

-- lists keep their answers where the events stay, and one command more is answered as it should be
pub lists-push : (g : Geometry) (tasks : List Task) (last : Command) (h h' : List Happening) → ListsNameWritten g h (commands_from 0 tasks)
    → ((m : ℕ) → m < length tasks → events_of h' (lane_zero m) ≡ events_of h (lane_zero m))
    → ((since : ℕ) → last.task ≡ Ask (ListRequest since false) → IsListAnswer g (commands_from 0 tasks) since (answer_of (events_of h' last.id)))
    → ListsNameWritten g h' (commands_from 0 tasks ++ last ∷ [])
lists-push g tasks last h h' lists kept answered before after at since e asks = go (split-last (commands_from 0 tasks) last before at after e)
  where
    go : SplitLast (commands_from 0 tasks) last before at after → IsListAnswer g before since (answer_of (events_of h' at.id))
    go (IsLast b a) =
        subst (λ l. IsListAnswer g l since (answer_of (events_of h' at.id))) (sym b)
        (subst (λ (c : Command). IsListAnswer g (commands_from 0 tasks) since (answer_of (events_of h' c.id))) (sym a)
        (answered since (sym (ap (λ c. c.task) a) ∙ asks)))
    go (IsEarlier rest there) =
        let found = command-number 0 tasks before at rest there in
        let same : events_of h' at.id ≡ events_of h at.id =
        ap (λ id. events_of h' id) found.2 ∙ kept found.0 (let less = found.1 in omega arith) ∙ sym (ap (λ id. events_of h id) found.2) in
        subst (λ events. IsListAnswer g before since (answer_of events)) (sym same) (lists before rest at since there asks)
