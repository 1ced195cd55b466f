use Rattle.std.proofs.Common.{◌≡◌, ◌≤◌, [], ◌∷◌, take, IfSome, max}
use Rattle.std.specs.Prelude.{option_map}
use Rattle.era_model.specs.History.{era_of}
use Rattle.era_model.specs.Journal.{history_after}
use Rattle.era_model.specs.Marking.{era_start}
use Rattle.era_model.specs.declared.history.Happening.TheVariants.{Opened}
use Rattle.era_model.proofs.plain_calls.start_of.Given as goal

abbrev pub invariant-loop-index : goal.invariant-loop-index
invariant-loop-index l =
    let opened = Opened l.journal.opening ∷ [] in
    let h = history_after opened (take l.index l.entry-items) in
    record {
      era : l.now ≡ era_of h;
      wanted : l.wanted ≡ max l.era 1;
      start : era_start l.era h ≡ option_map (λ start. history_after opened (take start l.entry-items)) l.start;
      before : IfSome l.start (λ start. start ≤ l.index);
    }
