use Rattle.era_served.proofs.runs.journals_are_runs.Goals as goal

pub returns : goal.returns
returns g c = λ journal lane rounds first last places acts run. record {
  drawn = c.journals_keep_their_order.ensures.drawn journal lane rounds first last places acts run;
  events = c.commands_have_their_events.ensures journal lane rounds first last places acts run;
  lanes = c.journals_keep_their_order.ensures.lanes journal lane rounds first last places acts run;
  borders = c.journals_keep_their_order.ensures.borders journal lane rounds first last places acts run;
}
