-- What an object and a slot cost at most in calls, computed.
use Rattle.std.proofs.Common.{refl}
use Rattle.settle_round_calls.specs.Slots.Slots.{again_calls, ops_sweep_calls}
use Rattle.settle_round_calls.specs.Rest.ShortRounds.{agent_sweep_calls, sweep_calls}
use Rattle.settling_examples.specs.Ending.{copies}
use Rattle.settling_examples.specs.Costs.{CostExamples, SlotExamples, SweepExamples}

pub cost_examples : CostExamples
cost_examples = record {
  pending = refl;
  available = refl;
  bound = refl;
  released = refl;
  failed = refl;
  made = refl;
  claim = refl;
  pod = refl;
  one_claim = refl;
  two_claims = refl;
  placed = refl;
  class = refl;
  node = refl;
}

pub slot_examples : SlotExamples
unfolding again_calls copies
slot_examples = record {
  nothing = refl;
  four = refl;
  two_claims = refl;
  agent_none = refl;
  agent_some = refl;
  binder_none = refl;
  binder_some = refl;
  ops_none = refl;
  ops_some = refl;
}

pub sweep_examples : SweepExamples
unfolding agent_sweep_calls copies ops_sweep_calls sweep_calls
sweep_examples = record {
  none_ended = refl;
  two_ended = refl;
  rows_few_claims = refl;
  rows_claims = refl;
  rows_few_ended = refl;
  rows_ended = refl;
  rows_open = refl;
  by_few_claims = refl;
  by_claims = refl;
  by_few_volumes = refl;
  by_volumes = refl;
  by_both = refl;
  by_few_pods = refl;
  by_pods = refl;
}
