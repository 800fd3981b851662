-- The nodes that a scheduler selected for claims, and those that were refused, as the entries of its seat tell. A node was refused for a
-- claim where it stood selected and the claim, not completed, is then seen with another node or with none: by whatever answer tells the
-- claim as it was written later. So what a watch tells of the time before says nothing.
-- A choice of this project, after the scheduler's volume binding plugin, which tries another node once `selected-node` is taken back.
use Rattle.std.specs.Prelude.{ℕ, Bool, true, not, ◌&&◌, nat_lt, List, [], ◌∷◌, Option, Some, None, bytes_eq, filter, if◌then◌else◌}
use Rattle.plain_data.specs.Pairs.{value_at}
use Rattle.kube_parts.specs.declared.uid.Uid.{Uid}
use Rattle.kube_objects.specs.declared.objects.Claim.{Claim as ClaimData}
use Rattle.kube_objects.specs.declared.objects.Object.{Object}
use Rattle.kube_objects.specs.declared.objects.Object.TheVariants.{Claim}
use Rattle.kube_objects.specs.Bindings.{selected_node, is_completed}
use Rattle.call_types.specs.declared.entry.Entry.{Entry}
use Rattle.call_types.specs.declared.request.Request.{Request}
use Rattle.call_types.specs.declared.request.Request.TheVariants.{Update}
use Rattle.call_types.specs.declared.reply.Reply.{Reply}
use Rattle.call_types.specs.declared.reply.Reply.TheVariants.{Done}
use Rattle.binder_model.specs.Same.{same_uid}
use Rattle.binder_model.specs.Told.{objects_in}
use Rattle.pod_scheduler.specs.declared.tries.Tried.{Tried}
use Rattle.pod_scheduler.specs.declared.tries.Tries.{Tries}

-- no node stands selected, and none was refused
abbrev pub no_tries : Tries
no_tries = record { selected = []; refused = [] }

-- of one claim at most one

-- the try is of this claim
abbrev pub is_try_of : Uid → Tried → Bool
is_try_of uid t = same_uid t.claim uid

-- the tries but those of this claim
abbrev pub without_tried : Uid → List Tried → List Tried
without_tried uid ts = filter (λ t. not (is_try_of uid t)) ts

-- the tries with this one in place of older ones of its claim
abbrev pub renewed : Tried → List Tried → List Tried
renewed t ts = t ∷ without_tried t.claim ts

-- the try of a claim, if there is one
abbrev pub tried_of : Uid → List Tried → Option Tried
tried_of uid [] = None
tried_of uid (t ∷ ts) = if is_try_of uid t then Some t else tried_of uid ts

-- the node that stands selected for a claim
abbrev pub node_selected_for : ClaimData → Option (List ℕ)
node_selected_for c = value_at selected_node c.meta.annotations

-- a claim is seen

-- the node that is seen is another one, or there is none
abbrev pub is_other_node : List ℕ → Option (List ℕ) → Bool
is_other_node node None = true
is_other_node node (Some seen) = not (bytes_eq node seen)

-- the claim, not completed, has another node or none, and was written after the node was
abbrev pub is_refusal : Tried → ClaimData → Bool
is_refusal t c = not (is_completed c) && nat_lt t.version c.meta.version && is_other_node t.node (node_selected_for c)

-- the node that stands selected, where the claim shows it to be refused
abbrev pub refused_in : ClaimData → Option Tried → Option Tried
refused_in c None = None
refused_in c (Some t) = if is_refusal t c then Some t else None

-- it stands selected no more, and is the one that was refused last
abbrev pub and_refused : Tried → Tries → Tries
and_refused t m = record { selected = without_tried t.claim m.selected; refused = renewed t m.refused }

-- the memory with this try refused, if there is one
abbrev pub refuse_if : Option Tried → Tries → Tries
refuse_if None m = m
refuse_if (Some t) m = and_refused t m

-- the memory after a claim was seen
abbrev pub see_claim : Option Uid → ClaimData → Tries → Tries
see_claim None c m = m
see_claim (Some uid) c m = refuse_if (refused_in c (tried_of uid m.selected)) m

-- the memory after an object was seen
abbrev pub see : Object → Tries → Tries
see (Claim c) m = see_claim c.meta.uid c m
see o m = m

-- the memory after these objects were seen
abbrev pub see_all : List Object → Tries → Tries
see_all [] m = m
see_all (o ∷ os) m = see_all os (see o m)

-- a write of a claim was done: the node that it has then stands selected

-- the memory after a node was selected for a claim
abbrev pub select : Option Uid → Option (List ℕ) → ClaimData → Tries → Tries
select (Some uid) (Some node) c m = record m { selected = renewed (record { claim = uid; node = node; version = c.meta.version }) m.selected }
select uid chosen c m = m

-- the memory after the node that stands in the claim was selected
abbrev pub selected_by : ClaimData → Tries → Tries
selected_by c m = select c.meta.uid (node_selected_for c) c m

-- the memory after an answer: where a claim was written with a node, that node stands selected
abbrev pub select_if : Request → Reply → Tries → Tries
select_if (Update (Claim asked) version) (Done (Claim c)) m = selected_by c m
select_if request reply m = m

-- an answer: what it tells is seen first, so that a write over another node refuses that one
abbrev pub tries_after : Request → Reply → Tries → Tries
tries_after request reply m = select_if request reply (see_all (objects_in reply) m)

-- what the entries of a seat tell, the newest first; one that did not reach the seat tells nothing
abbrev pub tries_of : List Entry → Tries
tries_of [] = no_tries
tries_of (e ∷ mine) = if e.told then tries_after e.request e.reply (tries_of mine) else tries_of mine
