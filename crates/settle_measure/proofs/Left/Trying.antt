-- A node that was refused is not tried again before the others.
use Rattle.std.proofs.Common.{◌∙◌, ℕ, List, [], ◌∷◌, ◌++◌, true, false, true≢false, inl, inr, sym, ap, arith}
use Rattle.kube_objects.specs.declared.objects.Node.{Node as NodeData}
use Rattle.kube_objects.specs.declared.objects.Pod.{Pod as PodData}
use Rattle.call_types.specs.declared.setup.Setup.{Setup}
use Rattle.binder_model.specs.Choice.{others_of}
use Rattle.binder_model.specs.Due.{shares_are_served}
use Rattle.binder_model.specs.World.{World}
use Rattle.settle_measure.specs.Left.Tries.{IsOn, NoneServes, OneLess, RefusedNodeIsTried, SharesAreOne, SomeGives, Tries, TriesAreFew}

pub tries_are_few : TriesAreFew
tries_are_few setup w p [] k e = omega (arith, e)
tries_are_few setup w p (n ∷ ns) k (inl passed) = let h = tries_are_few setup w p ns k passed.1 in omega (arith, h)
tries_are_few setup w p (n ∷ ns) k (inr (inl given)) = let e = given.1 in omega (arith, e)
tries_are_few setup w p (n ∷ ns) k (inr (inr refused)) = let h = tries_are_few setup w p ns refused.1.0 refused.1.1.1 in let e = refused.1.1.0 in omega (arith, h, e)

module _ (setup : Setup) (w : World) (p : PodData) (one : SharesAreOne w p) where
  -- a node cannot give and not give
  both : {G : Type 0} (n : NodeData) → IsOn setup w p true n → IsOn setup w p false n → G
  both n a b = absurd (true≢false (sym a.given_is ∙ ap (shares_are_served setup w n (others_of w.store.rows p)) (one n a.shares b.shares a.serves b.serves) ∙ b.given_is))

  -- the search ends where a node gives: what stands behind is not looked at
  ends_early : (ns more : List NodeData) (k : ℕ) → SomeGives setup w p ns → Tries setup w p ns k → Tries setup w p (ns ++ more) k
  ends_early [] more k some tries = absurd some
  ends_early (n ∷ ns) more k some (inr (inl given)) = inr (inl given)
  ends_early (n ∷ ns) more k (inl gives) (inl passed) = absurd (passed.0 gives.shares gives.serves)
  ends_early (n ∷ ns) more k (inr some) (inl passed) = inl (passed.0, ends_early ns more k some passed.1)
  ends_early (n ∷ ns) more k (inl gives) (inr (inr refused)) = both n gives refused.0
  ends_early (n ∷ ns) more k (inr some) (inr (inr refused)) = inr (inr (refused.0, (refused.1.0, (refused.1.1.0, ends_early ns more refused.1.0 some refused.1.1.1))))

  goes_on : (before : List NodeData) (n : NodeData) (behind more : List NodeData) (k : ℕ) → NoneServes w p before → IsOn setup w p false n → SomeGives setup w p behind
      → Tries setup w p (before ++ n ∷ behind) k → OneLess setup w p (behind ++ more) k
  goes_on [] n behind more k none refused some (inl passed) = absurd (passed.0 refused.shares refused.serves)
  goes_on [] n behind more k none refused some (inr (inl given)) = both n given.0 refused
  goes_on [] n behind more k none refused some (inr (inr on)) = record { tries = on.1.0; less = sym on.1.1.0; are = ends_early behind more on.1.0 some on.1.1.1 }
  goes_on (m ∷ before) n behind more k none refused some (inl passed) = goes_on before n behind more k none.1 refused some passed.1
  goes_on (m ∷ before) n behind more k none refused some (inr (inl given)) = absurd (none.0 given.0.shares given.0.serves)
  goes_on (m ∷ before) n behind more k none refused some (inr (inr on)) = absurd (none.0 on.0.shares on.0.serves)

pub refused_node_is_tried : RefusedNodeIsTried
refused_node_is_tried setup w p before n behind k one none refused some tries = goes_on setup w p one before n behind (before ++ n ∷ []) k none refused some tries
