use Rattle.std.proofs.Common.{refl}
use Rattle.era_notes.proofs.OwnFlights.{agree-all, crash-whole}
use Rattle.era_notes.proofs.own_laws.own_draws_tell_of_their_blocks.Goals as goal

pub returns-clause-flights : goal.returns-clause-flights
returns-clause-flights c = λ opening drawer_of log drawer owns. (agree-all opening drawer_of log owns).flights drawer

pub returns-clause-contents : goal.returns-clause-contents
returns-clause-contents c = λ opening drawer_of log block owns. (agree-all opening drawer_of log owns).contents (drawer_of block) block refl

pub returns-clause-crashes : goal.returns-clause-crashes
returns-clause-crashes c = λ opening drawer_of log block image owns. crash-whole opening drawer_of log (drawer_of block) block image owns refl
