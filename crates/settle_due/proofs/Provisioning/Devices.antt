-- What the devices answer to a call for the data of a claim.
use Rattle.std.proofs.Common.{◌≡◌, ◌∙◌, ℕ, ◌+◌, List, [], ◌∷◌, Bool, true, false, Option, Some, None, refl, ap, if◌then◌else◌}
use Rattle.std.specs.Prelude.{◌&&◌, ◌||◌, bytes_eq, is_some}
use Rattle.std.specs.List.{list_any}
use Rattle.plain_data.specs.Pairs.{Pair}
use Rattle.kube_parts.specs.declared.uid.Uid.{Uid}
use Rattle.kube_objects.specs.declared.objects.Class.{Class as ClassData}
use Rattle.kube_objects.specs.declared.objects.Claim.{Claim as ClaimData}
use Rattle.kube_objects.specs.declared.objects.DataId.{DataId}
use Rattle.call_types.specs.declared.reply.Refusal.TheVariants.{BackFault, Exhausted}
use Rattle.call_types.specs.declared.reply.Reply.{Reply}
use Rattle.call_types.specs.declared.reply.Reply.TheVariants.{Provisioned, Refused}
use Rattle.call_types.specs.declared.request.SeatKind.{SeatKind}
use Rattle.call_types.specs.declared.setup.Setup.{Setup}
use Rattle.binder_model.specs.Answers.{is_user}
use Rattle.binder_model.specs.Devices.{Data, data_named, device_answer, first_fit, fresh_id, is_planned, most_free, provision, provision_new, topology_at, unless_planned}
use Rattle.binder_model.specs.Due.{is_served}
use Rattle.binder_model.specs.Provisioning.{data_name}
use Rattle.binder_model.specs.World.{World, effect, on_devices, reply_to, world_after}
use Rattle.reclaim_ops.specs.Provisions.{ask_call}

-- data are given, where they are there or a pool fits, and else there are none; or the call fails as planned
pub data ProvisionSays (served : Bool) (reply : Reply) : Type 0 where
  Gives : (id : DataId) (topology : Option (List ℕ × List ℕ)) → served ≡ true → reply ≡ Provisioned id topology → ProvisionSays served reply
  Lacks : (free : ℕ) → served ≡ false → reply ≡ Refused (Exhausted free) → ProvisionSays served reply
  Fails : (call : ℕ) → reply ≡ Refused (BackFault call) → ProvisionSays served reply

-- data of a name are there where the first of them is found
named_is : (name : List ℕ) (stored : List Data) → list_any (λ x. x.there && bytes_eq x.name name) stored ≡ is_some (data_named name stored)
named_is name [] = refl
named_is name (x ∷ xs) = by (x.there && bytes_eq x.name name) (named_is name xs)
  where
    by : (b : Bool) → list_any (λ x. x.there && bytes_eq x.name name) xs ≡ is_some (data_named name xs)
        → (b || list_any (λ x. x.there && bytes_eq x.name name) xs) ≡ is_some (if b then Some x else data_named name xs)
    by true rest = refl
    by false rest = rest

module _ (setup : Setup) (w : World) (kind : SeatKind) (controller : is_user kind ≡ false) (c : ClaimData) (uid : Uid) (x : ClassData) (labels : Option (List Pair)) where
  abbrev fit : Option ℕ
  fit = first_fit x.provisioner c.amount.bytes labels w.devices.stored 0 setup.pools

  served_is : (found : Option Data) (place : Option ℕ) → data_named (data_name uid) w.devices.stored ≡ found → fit ≡ place → is_served setup w.devices c uid x labels ≡ (is_some found || is_some place)
  served_is found place named fits = let a = named_is (data_name uid) w.devices.stored ∙ ap is_some named in let b = ap is_some fits in λ i. a i || b i

  fitted : (place : Option ℕ) → data_named (data_name uid) w.devices.stored ≡ None → fit ≡ place
      → ProvisionSays (is_served setup w.devices c uid x labels) (provision_new setup.pools w.devices (data_name uid) x.provisioner c.amount.bytes labels place).reply
  unfolding provision_new
  fitted (Some place) named fits = Gives (fresh_id x.provisioner w.devices.stored) (topology_at place setup.pools) (served_is None (Some place) named fits) refl
  fitted None named fits = Lacks (most_free x.provisioner labels w.devices.stored 0 setup.pools) (served_is None None named fits) refl

  found_so : (found : Option Data) → data_named (data_name uid) w.devices.stored ≡ found
      → ProvisionSays (is_served setup w.devices c uid x labels) (provision setup.pools w.devices (data_name uid) x.provisioner c.amount.bytes labels found).reply
  unfolding provision
  found_so (Some given) named = Gives given.id (topology_at given.pool setup.pools) (served_is (Some given) fit named refl) refl
  found_so None named = fitted fit named refl

  pub provision_says : ProvisionSays (is_served setup w.devices c uid x labels) (reply_to (effect setup w kind (ask_call c uid x labels)))
  unfolding effect on_devices device_answer unless_planned reply_to
  provision_says = rw controller (by (is_planned (w.devices.calls + 1) setup.faults) refl)
    where
      by : (b : Bool) → is_planned (w.devices.calls + 1) setup.faults ≡ b
          → ProvisionSays (is_served setup w.devices c uid x labels)
          (unless_planned setup w.devices (provision setup.pools w.devices (data_name uid) x.provisioner c.amount.bytes labels (data_named (data_name uid) w.devices.stored))).reply
      by true e = rw e (Fails (w.devices.calls + 1) refl)
      by false e = rw e (found_so (data_named (data_name uid) w.devices.stored) refl)

  -- and the store stays as it was
  pub provision_keeps : (world_after w (effect setup w kind (ask_call c uid x labels))).store ≡ w.store
  unfolding effect on_devices device_answer world_after
  provision_keeps = rw controller refl
