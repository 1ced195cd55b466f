-- What the giving of a dump's parts says of marks.
use Rattle.std.proofs.Common.{◌≡◌, ℕ, ◌+◌, ◌<◌, List, [], ◌∷◌, ◌++◌, length, get_or, take, refl, ap, sym, ◌∙◌, subst}
use Rattle.std.specs.Prelude.{Option, Some, Ok, Err}
use Rattle.std.proofs.lemmas.List.{take_more}
use Rattle.era_base.specs.Geometry.{blocks_of}
use Rattle.era_base.specs.Runs.{AreRuns}
use Rattle.era_base.specs.Streams.{GivesFront}
use Rattle.era_base.specs.declared.geometry.Geometry.{Geometry}
use Rattle.era_line.specs.TextBuffer.{Gathers, IsEmpty}
use Rattle.era_line.specs.declared.text_buffer.TextBuffer.{TextBuffer}
use Rattle.era_model.specs.EraRuns.{AreEraRuns}
use Rattle.era_model.specs.MarkRuns.{AreWithin, marks_of_runs}
use Rattle.era_model.specs.Marks.{BlockMarks}
use Rattle.era_model.specs.declared.marked_set.MarkedSet.{MarkedSet}
use Rattle.era_text.specs.DumpLines.{dump_lines}
use Rattle.era_text.specs.Dumps.{AreSetRuns, IsDumpOf}
use Rattle.era_text.specs.Pieces.{lists_text}
use Rattle.era_text.specs.Written.{GivesDump}
use Rattle.era_text.specs.declared.text_end.TextEnd.TheVariants.{Sink}
use Rattle.era_text.proofs.DumpTexts.{text-dump}
use Rattle.era_line.proofs.PartSteps.{HasAdded, HasCut}

-- one set more has maximal runs
set_runs-push : (sets : List MarkedSet) (set : MarkedSet) → AreSetRuns sets → AreRuns set.blocks → AreSetRuns (sets ++ set ∷ [])
set_runs-push [] set are runs = (runs, tt)
set_runs-push (first ∷ sets) set are runs = (are.0, set_runs-push sets set are.1 runs)

pub set_runs-more : (sets : List MarkedSet) (i : ℕ) (set : MarkedSet) → i < length sets → AreSetRuns (take i sets) → set ≡ get_or sets i set → AreRuns set.blocks
    → AreSetRuns (take (i + 1) sets)
set_runs-more sets i set lt are is runs =
    subst AreSetRuns (ap (λ (next : MarkedSet). take i sets ++ next ∷ []) is ∙ sym (take_more sets i set lt)) (set_runs-push (take i sets) set are runs)

-- the text of the runs of marks is their dump
pub dump-of_runs : (m : BlockMarks) (g : Geometry) (era : ℕ) (array : List (ℕ × ℕ × ℕ)) (archive : List MarkedSet) (current : List (ℕ × ℕ))
    → marks_of_runs g era array archive current ≡ m → AreEraRuns array → AreSetRuns archive → AreRuns current
    → AreWithin (blocks_of g.sectors g.block_sectors) array archive current → IsDumpOf m (lists_text g.sectors g.block_sectors era array archive current)
dump-of_runs m g era array archive current is runs sets marked within =
    subst (λ (marks : BlockMarks). IsDumpOf marks (lists_text g.sectors g.block_sectors era array archive current)) is (record {
      lines = dump_lines g.sectors g.block_sectors era array archive current;
      are = record {
        array = array;
        archive = archive;
        current = current;
        runs = record { array_maximal = runs; sets_maximal = sets; current_maximal = marked; within = within; same = refl };
        spelled = refl;
      };
      joined = sym (text-dump g.sectors g.block_sectors era array archive current);
    })

-- a front of the dump was given
pub gives-front : (m : BlockMarks) (given given' : Option (List ℕ)) (buffer : TextBuffer) (text : List ℕ) (count : ℕ)
    → IsDumpOf m text → IsEmpty buffer → HasCut given buffer given' text → GivesDump {T = Unit {0}} m given given' (Err (Sink count))
gives-front m given given' buffer text count dump empty cut = λ before is. record {
  text = text;
  dump = dump;
  front = cut before [] (empty before given is);
}

-- what was gathered of the dump is given, or a front of it
pub gives-flushed : (m : BlockMarks) (given given' given'' : Option (List ℕ)) (buffer buffer' : TextBuffer) (text : List ℕ) (count : ℕ)
    → IsDumpOf m text → IsEmpty buffer → HasAdded given buffer given' buffer' text
    → ((before text : List ℕ) → Gathers before text given' buffer' → GivesFront before text given'')
    → GivesDump {T = Unit {0}} m given given'' (Err (Sink count))
gives-flushed m given given' given'' buffer buffer' text count dump empty added flushed = λ before is. record {
  text = text;
  dump = dump;
  front = flushed before text (added before [] (empty before given is));
}

pub gives-all : (m : BlockMarks) (given given' given'' : Option (List ℕ)) (buffer buffer' : TextBuffer) (text : List ℕ)
    → IsDumpOf m text → IsEmpty buffer → HasAdded given buffer given' buffer' text
    → ((before text : List ℕ) → Gathers before text given' buffer' → given'' ≡ Some (before ++ text))
    → GivesDump {T = Unit {0}} m given given'' (Ok tt)
gives-all m given given' given'' buffer buffer' text dump empty added flushed = λ before is. record {
  text = text;
  dump = dump;
  given = flushed before text (added before [] (empty before given is));
}
