-- What the side answers, and what it keeps after an answer and after a call of the world.
-- Source: Kubernetes documentation, "Resource Quotas": a create that would pass a limit is refused before the object is stored. The
-- asks, and the order in which rows grow, are choices of this project.
use Rattle.std.specs.Prelude.{ℕ, ◌≡◌, ◌-◌, ◌==◌, ◌&&◌, List, [], ◌∷◌, Bool, false, Option, Some, None, if◌then◌else◌, option_map, ⊤}
use Rattle.kube_objects.specs.declared.key.Key.{Key}
use Rattle.kube_objects.specs.declared.objects.Object.{Object}
use Rattle.kube_objects.specs.declared.objects.Object.TheVariants.{Claim}
use Rattle.kube_objects.specs.Keys.{same_key}
use Rattle.call_types.specs.declared.entry.Entry.{Entry}
use Rattle.call_types.specs.declared.setup.Setup.{Setup}
use Rattle.binder_model.specs.World.{world}
use Rattle.side_calls.specs.declared.asks.SideAsk.{SideAsk}
use Rattle.side_calls.specs.declared.asks.SideAsk.TheVariants as asks
use Rattle.side_calls.specs.declared.asks.SideReply.{SideReply}
use Rattle.side_calls.specs.declared.asks.SideReply.TheVariants as replies
use Rattle.side_calls.specs.declared.quotas.OverQuota.{OverQuota}
use Rattle.side_calls.specs.declared.sizes.GrowError.{GrowError}
use Rattle.side_calls.specs.declared.sizes.SizeRow.{SizeRow}
use Rattle.side_calls.specs.declared.sizes.SizeStep.{SizeStep}
use Rattle.side_calls.specs.declared.sizes.StepKind.{StepKind}
use Rattle.side_calls.specs.declared.sizes.StepKind.TheVariants.{Data, Volume, Given}
use Rattle.quota_rules.specs.Using.{Tally, over_in}
use Rattle.expand_ops.specs.Growing.{grow_fault, rows_grown}
use Rattle.expand_ops.specs.Sizes.{after_step, kept_after, next_step}
use Rattle.side_model.specs.Merged.{Step, OfWorld, OfSide, entries}
use Rattle.side_model.specs.Sides.{SideSetup, Side, first_side, growth_of, tally_of}

-- ---- a user's create

-- what holds a create back, if anything does: the quota of the namespace, of which a claim takes its request and one claim
abbrev pub held_by : Tally → Object → Option OverQuota
held_by t (Claim c) = over_in t c.meta.namespace (record { bytes = c.amount.bytes; claims = 1 })
held_by t o = None

-- ---- a step of growth

-- the place of a kind of step in the order of a growth
abbrev pub kind_number : StepKind → ℕ
kind_number Data = 0
kind_number Volume = 1
kind_number Given = 2

-- the key of the row at a place
abbrev pub key_at : ℕ → List SizeRow → Option Key
key_at place [] = None
key_at place (x ∷ xs) = if place == 0 then Some x.key else key_at (place - 1) xs

-- the ask names the step of this kind, of the row of this key
abbrev pub names_step : StepKind → Key → StepKind → Option Key → Bool
names_step kind key other None = false
names_step kind key other (Some at) = kind_number kind == kind_number other && same_key key at

-- what a number has become; only the step that is made next has an answer
abbrev pub step_reply : StepKind → Key → List SizeRow → Option SizeStep → Option SideReply
step_reply kind key sizes None = None
step_reply kind key sizes (Some s) = if names_step kind key s.kind (key_at s.place sizes) then Some (replies.Bytes s.bytes) else None

-- ---- any ask

-- done, or why the claim does not grow
abbrev pub grow_reply : Option GrowError → SideReply
grow_reply None = replies.Done
grow_reply (Some error) = replies.NotGrown error

-- what the side answers among these objects. It has no answer to what is none of its asks, as a create that the quota allows
abbrev pub reply_in : Side → List Object → SideAsk → Option SideReply
reply_in s objects (asks.Create user object) = option_map (λ over. replies.OverQuota over) (held_by (tally_of s objects) object)
reply_in s objects (asks.Grow user key bytes) = Some (grow_reply (grow_fault (tally_of s objects) s.sizes objects key bytes))
reply_in s objects (asks.Step kind key) = step_reply kind key s.sizes (next_step (growth_of s))

-- the side after the ask: a held create changes nothing, a growth its row alone
abbrev pub after_ask : Side → List Object → SideAsk → Side
after_ask s objects (asks.Create user object) = s
after_ask s objects (asks.Grow user key bytes) = record s { sizes = rows_grown (tally_of s objects) s.sizes objects key bytes }
after_ask s objects (asks.Step kind key) = record s { sizes = after_step (next_step (growth_of s)) s.sizes }

-- the side after a call of the world: a claim that left has no row
abbrev pub after_entry : Side → Entry → Side
after_entry s e = record s { sizes = kept_after e.reply s.sizes }

-- ---- the whole list

-- the side after these steps
abbrev pub side : Setup → SideSetup → List Step → Side
side setup given [] = first_side given
side setup given (OfWorld e ∷ m) = after_entry (side setup given m) e
side setup given (OfSide s ∷ m) = after_ask (side setup given m) (world setup (entries m)).store.rows s.ask

-- what the side answers after these steps, in the world as it is then
abbrev pub answer : Setup → SideSetup → List Step → SideAsk → Option SideReply
answer setup given m ask = reply_in (side setup given m) (world setup (entries m)).store.rows ask

-- each reply of the side is its answer at that point
abbrev pub SideRun : Setup → SideSetup → List Step → Type 0
SideRun setup given [] = ⊤
SideRun setup given (OfWorld e ∷ m) = SideRun setup given m
SideRun setup given (OfSide s ∷ m) = SideRun setup given m × (answer setup given m s.ask ≡ Some s.reply)
