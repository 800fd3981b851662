-- Lines of the side as they are printed.
-- A choice of this project: the format of extended histories.
use Rattle.std.specs.Prelude.{◌≡◌, ℕ, List, [], ◌∷◌, codes}
use Rattle.kube_parts.specs.declared.parts.Kind.TheVariants.{PersistentVolumeClaim}
use Rattle.kube_parts.specs.Uids.{uid_of_serial}
use Rattle.kube_objects.specs.declared.key.Key.{Key}
use Rattle.side_calls.specs.declared.asks.SideAsk.{SideAsk}
use Rattle.side_calls.specs.declared.asks.SideAsk.TheVariants as asks
use Rattle.side_calls.specs.declared.asks.SideReply.{SideReply}
use Rattle.side_calls.specs.declared.asks.SideReply.TheVariants as replies
use Rattle.side_calls.specs.declared.quotas.OverQuota.TheVariants.{OverBytes, OverClaims}
use Rattle.side_calls.specs.declared.sizes.GrowError.TheVariants.{NotGrowable}
use Rattle.side_calls.specs.declared.sizes.StepKind.TheVariants as steps
use Rattle.side_calls.specs.declared.sizes.Why.TheVariants as whys
use Rattle.side_text.specs.Entries.{side_line}
use Rattle.side_text.specs.Output.{side_lines, size_line}

-- the claim `c` in the namespace `default`
abbrev pub c : Key
c = record { kind = PersistentVolumeClaim; namespace = codes "default"; name = codes "c" }

-- the line of an entry behind so many of the history
abbrev pub line : ℕ → SideAsk → SideReply → List ℕ
line after ask reply = side_line (record { after = after; entry = record { ask = ask; reply = reply } })

pub record PrintedExamples : Type 0 where
  pub grows : line 9 (asks.Grow 1 c 5) replies.Done ≡ codes "{\"after\":9,\"ask\":{\"bytes\":5,\"do\":\"grow\",\"name\":\"c\",\"namespace\":\"default\"},\"reply\":{\"done\":true}}"
  pub by_another_user : line 0 (asks.Grow 3 c 5) (replies.NotGrown (NotGrowable whys.NotBound)) ≡
      codes "{\"after\":0,\"ask\":{\"bytes\":5,\"do\":\"grow\",\"name\":\"c\",\"namespace\":\"default\",\"user\":3},\"reply\":{\"refused\":\"NotGrowable\",\"why\":\"NotBound\"}}"
  pub a_step : line 9 (asks.Step steps.Data c) (replies.Bytes 5) ≡
      codes "{\"after\":9,\"ask\":{\"do\":\"data\",\"kind\":\"PersistentVolumeClaim\",\"name\":\"c\",\"namespace\":\"default\"},\"reply\":{\"bytes\":5}}"
  pub more_than_64_bits : line 0 (asks.Grow 1 c 5) (replies.OverQuota (OverBytes 24211351596743786496 7)) ≡
      codes "{\"after\":0,\"ask\":{\"bytes\":5,\"do\":\"grow\",\"name\":\"c\",\"namespace\":\"default\"},\"reply\":{\"limit\":7,\"refused\":\"OverBytes\",\"used\":24211351596743786496}}"
  pub too_many_claims : line 0 (asks.Grow 1 c 5) (replies.OverQuota (OverClaims 2 1)) ≡
      codes "{\"after\":0,\"ask\":{\"bytes\":5,\"do\":\"grow\",\"name\":\"c\",\"namespace\":\"default\"},\"reply\":{\"limit\":1,\"refused\":\"OverClaims\",\"used\":2}}"
  pub sizes : size_line (record { key = c; claim = uid_of_serial 2; asked = 9; given = 5; volume = 6; stored = 7; first = 5 }) ≡
      codes "size default/c asked 9 given 5 volume 6 data 7"
  pub nothing_of_the_side : side_lines [] [] ≡ codes "side" ∷ codes "end side" ∷ []
