use Rattle.replay_laws.proofs.Printable.Replays.{replay_texts_have_one}
use Rattle.replay_laws.proofs.printable_laws.replay_texts_have_one.Goals as goal

pub returns : goal.returns
returns c = replay_texts_have_one
