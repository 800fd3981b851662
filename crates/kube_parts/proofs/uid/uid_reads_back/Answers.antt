use Rattle.kube_parts.proofs.UidTexts.{reads_back}
use Rattle.kube_parts.proofs.uid.uid_reads_back.Goals as goal

pub returns : goal.returns
returns c = reads_back
