use Rattle.machine_examples.proofs.Actor.Computed.{news}
use Rattle.machine_examples.proofs.actors.news_examples.Goals as goal

pub returns : goal.returns
returns c = news
