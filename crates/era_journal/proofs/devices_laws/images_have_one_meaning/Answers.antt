use Rattle.std.proofs.Common.{ap}
use Rattle.era_meta.specs.Meaning.{Meaning}
use Rattle.era_journal.proofs.devices_laws.images_have_one_meaning.Goals as goal

pub returns : goal.returns
returns c = record {
  marks = λ image m other held found one two. ap (λ (meaning : Meaning). meaning.marks)
      (c.image_stands_for_one_meaning.ensures.one (record { marks = m; held = held }) (record { marks = other; held = found }) image one two);
  held = λ image m other held found one two. ap (λ (meaning : Meaning). meaning.held)
      (c.image_stands_for_one_meaning.ensures.one (record { marks = m; held = held }) (record { marks = other; held = found }) image one two);
  blank = λ image m held blank stands. c.image_stands_for_one_meaning.ensures.blank (record { marks = m; held = held }) image stands blank;
}
