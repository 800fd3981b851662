use Rattle.std.proofs.Common.{◌≡◌, drop, map}
use Rattle.object_text.specs.Steps.Among.{is_one_of}
use Rattle.object_text.proofs.extra.is_one_of.Given as goal

-- the name is none of those that came before
abbrev pub invariant-loop-one : goal.invariant-loop-one
invariant-loop-one l = is_one_of l.name (map (λ n. n.now) (drop l.one-index l.names)) l.last ≡ is_one_of l.name (map (λ n. n.now) l.names) l.last
