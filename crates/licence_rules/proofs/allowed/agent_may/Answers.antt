use Rattle.licence_rules.proofs.allowed.agent_may.Goals as goal

pub returns-in-Unmount : goal.returns-in-Unmount
returns-in-Unmount g c = rw c.in-Unmount.is c.may_unmount.ensures

pub returns-in-FinishPod : goal.returns-in-FinishPod
returns-in-FinishPod g c = rw c.in-FinishPod.is c.may_finish.ensures
