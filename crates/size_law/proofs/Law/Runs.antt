-- The runs of the examples, computed.
use Rattle.std.proofs.Common.{sym, refl, subst, inl, inr, ap, ◌∙◌, true≢false, arith}
use Rattle.std.proofs.lemmas.Bool.{or_parts}
use Rattle.std.proofs.lemmas.Option.{same_Some}
use Rattle.std.specs.Ordering.{is_eq}
use Rattle.std.specs.Prelude.{ℕ, ◌≡◌, ◌||◌, ◌&&◌, Bool, true, false, not, List, [], ◌∷◌, Option, Some, None, is_some, codes, if◌then◌else◌}
use Rattle.std.specs.List.{list_any}
use mathlib.Core.Bool.{xor}
use Rattle.kube_parts.specs.declared.uid.Uid.{Uid}
use Rattle.kube_objects.specs.declared.key.Key.{Key}
use Rattle.kube_parts.specs.declared.parts.VolumePhase.TheVariants as volumes
use Rattle.kube_objects.specs.declared.objects.Ref.{Ref}
use Rattle.kube_objects.specs.declared.objects.Volume.{Volume as VolumeData}
use Rattle.kube_objects.specs.declared.objects.Claim.{Claim as ClaimData}
use Rattle.kube_objects.specs.declared.objects.Object.{Object}
use Rattle.kube_objects.specs.declared.objects.Object.TheVariants.{Volume}
use Rattle.kube_objects.specs.Keys.{key_cmp, key_of, row_at}
use Rattle.kube_parts.specs.Uids.{uid_of_serial}
use Rattle.kube_objects.specs.Bindings.{ref_uid}
use Rattle.call_types.specs.declared.entry.Entry.{Entry}
use Rattle.call_types.specs.declared.setup.Setup.{Setup}
use Rattle.call_types.specs.declared.request.SeatKind.TheVariants as seats
use Rattle.call_types.specs.declared.reply.Reply.TheVariants as replies
use Rattle.binder_model.specs.Store.{with_meta, at_version, admitted_object, without_status, created_object, with_status_of, updated_object, leaves, lacks_node}
use Rattle.binder_model.specs.Fields.{faulty, volume_fault, claim_fault, kind_fault, create_fault, changed_field, update_fault}
use Rattle.binder_model.specs.Guard.{breaks, guard}
use Rattle.binder_model.specs.Answers.{refuse, refuse_field, refuse_rule, guard_on, create, update, with_status, written_if_fits, update_status, list, outcome, reply_of, after}
use Rattle.binder_model.specs.Devices.{device_answer}
use Rattle.binder_model.specs.World.{effect, on_devices, reply_to, world, world_after, log_after}
use Rattle.binder_model.specs.BindWrites.{completed_with, taken_for, write_bound, write_completion, write_reference}
use Rattle.binder_model.specs.BinderLicence.{MayBind, MayComplete, MayTake}
use Rattle.binder_model.specs.Licence.{Licensed}
use Rattle.binder_model.specs.ObjectKeys.{claim_key, volume_key}
use Rattle.volume_index.proofs.PlacesBehind.{some_volume}
use Rattle.binder_model.specs.Run.{Run}
use Rattle.binder_model.specs.Safe.{Counts}
use Rattle.model_laws.specs.Stood.{Stood}
use Rattle.model_laws.specs.Worked.{no_setup}
use Rattle.model_laws.proofs.Lists.{none_some}
use Rattle.size_law.specs.Law.Fitting.{Fits, AreFitting, IsReservedFor, is_marked}
use Rattle.size_law.specs.Law.Enough.{WerePair, IsGivenByController, GetsEnough}
use Rattle.size_law.specs.Law.Examples.{FittingRunExamples, ShortRunExamples, a, binding, c, done, entry, lists_claim, lists_volume, taken, told}
use Rattle.size_law.proofs.Law.Examples.{fewer, giving_examples, neither}
use Rattle.size_law.proofs.Law.Law.{runs_refer_fitting}

-- licences of the reads

pub l3 : (v : VolumeData) → Licensed seats.Binder [] (lists_volume seats.Binder v 2).request
l3 v = (tt, (refl, tt))

pub l4 : (v : VolumeData) (x : ClaimData) → Licensed seats.Binder (lists_volume seats.Binder v 2 ∷ []) (lists_claim seats.Binder x 2).request
l4 v x = ((refl, tt), (refl, tt))

-- what the seat was told at each write

abbrev pub after_take : VolumeData → ClaimData → List Entry
after_take v x = entry 5 seats.Binder (write_reference v x) (replies.Done (Volume (taken v x 3 volumes.Pending))) ∷ told seats.Binder v x

abbrev pub after_bind : VolumeData → ClaimData → List Entry
after_bind v x = entry 5 seats.Binder (write_bound (taken v x 3 volumes.Pending)) (replies.Done (Volume (taken v x 4 volumes.Bound))) ∷ after_take v x

-- a claim that names no volume, of any size

l5 : (size : ℕ) → Licensed seats.Binder (told seats.Binder a (c size)) (write_reference a (c size))
unfolding taken_for
l5 size = ((refl, (refl, tt)), inr (inl (refl, inl (record { version = refl; placed = refl; named = refl }, take))))
  where
    take : MayTake (told seats.Binder a (c size)) a (taken_for a (c size))
    take = record { live = refl; told = inl (refl, inl (record { known = refl; free = tt; change = refl })) }

l6 : (size : ℕ) → Licensed seats.Binder (after_take a (c size)) (write_bound (taken a (c size) 3 volumes.Pending))
unfolding taken_for
l6 size = ((refl, (refl, (refl, tt))), (refl, inl (refl, inl (record { version = refl; placed = refl; named = refl }, bind))))
  where
    bind : MayBind (after_take a (c size)) (taken a (c size) 3 volumes.Pending)
    bind = record { live = refl; guarded = refl; uid = uid_of_serial 2; refers = refl; told = inr (inl (refl, inl (record { claim = refl; names = inl refl }))) }

l7 : (size : ℕ) → Licensed seats.Binder (after_bind a (c size)) (write_completion (taken a (c size) 4 volumes.Bound) (c size))
unfolding taken_for completed_with
l7 size = ((refl, (refl, (refl, (refl, tt)))), inr (inr (inl (refl, inl (record { version = refl; placed = refl; named = refl }, complete)))))
  where
    complete : MayComplete (after_bind a (c size)) (c size) (completed_with (c size) (taken a (c size) 4 volumes.Bound))
    complete = inl (refl, inl (record { bound = refl; carries = refl; names = inl refl; change = refl }))

run_of_3 : Run no_setup (binding 3)
unfolding effect on_devices device_answer outcome create update update_status list with_status written_if_fits refuse refuse_field refuse_rule
    guard_on guard breaks create_fault kind_fault volume_fault claim_fault update_fault changed_field faulty lacks_node admitted_object
    without_status created_object with_status_of updated_object at_version leaves with_meta reply_to world_after reply_of after log_after xor taken_for completed_with
run_of_3 = (((((((tt, refl, tt), refl, tt), refl, l3 a), refl, l4 a (c 3)), refl, l5 3), refl, l6 3), refl, l7 3)

run_of_9 : Run no_setup (binding 9)
unfolding effect on_devices device_answer outcome create update update_status list with_status written_if_fits refuse refuse_field refuse_rule
    guard_on guard breaks create_fault kind_fault volume_fault claim_fault update_fault changed_field faulty lacks_node admitted_object
    without_status created_object with_status_of updated_object at_version leaves with_meta reply_to world_after reply_of after log_after xor taken_for completed_with
run_of_9 = (((((((tt, refl, tt), refl, tt), refl, l3 a), refl, l4 a (c 9)), refl, l5 9), refl, l6 9), refl, l7 9)

-- what stood

-- a test that fails on all that stood
abbrev any_stood : (Object → Bool) → Setup → List Entry → Bool
any_stood f setup [] = list_any f (world setup []).store.rows
any_stood f setup (e ∷ past) = any_stood f setup past || list_any f (world setup (e ∷ past)).store.rows

none_at : (f : Object → Bool) (rows : List Object) (k : Key) (o : Object) → row_at k rows ≡ Some o → list_any f rows ≡ false → f o ≡ false
none_at f [] k o is none = none_some is
none_at f (x ∷ xs) k o is none =
    let parts = or_parts (f x) (list_any f xs) none in
    by (is_eq (key_cmp (key_of x) k)) parts.0 (λ at. none_at f xs k o at parts.1) is
  where
    by : (b : Bool) → f x ≡ false → (row_at k xs ≡ Some o → f o ≡ false) → (if b then Some x else row_at k xs) ≡ Some o → f o ≡ false
    by true first rest is = ap f (sym (same_Some x o is)) ∙ first
    by false first rest is = rest is

none_stood : (f : Object → Bool) (setup : Setup) (past : List Entry) (o : Object) → any_stood f setup past ≡ false → Stood setup past o → f o ≡ false
none_stood f setup [] o none was = none_at f (world setup []).store.rows (key_of o) o was none
none_stood f setup (e ∷ past) o none was =
    let parts = or_parts (any_stood f setup past) (list_any f (world setup (e ∷ past)).store.rows) none in
    elim was [
      | inl before ↦ none_stood f setup past o parts.0 before
      | inr now ↦ none_at f (world setup (e ∷ past)).store.rows (key_of o) o now parts.1
    ]

-- a volume whose reference has no UID
abbrev is_nameless : Option Ref → Bool
is_nameless None = false
is_nameless (Some r) = not (is_some r.uid)

abbrev is_reserved : Object → Bool
is_reserved (Volume v) = is_nameless v.claim_ref
is_reserved o = false

-- a volume that is marked, with no UID in the reference
abbrev is_marked_early : Object → Bool
is_marked_early (Volume v) = is_marked v.meta && not (is_some (ref_uid v.claim_ref))
is_marked_early o = false

reserved_is : (v : VolumeData) (x : ClaimData) → IsReservedFor v x → is_reserved (Volume v) ≡ true
reserved_is v x r = ap is_nameless r.is ∙ ap (λ (u : Option Uid). not (is_some u)) r.free

no_pair : (setup : Setup) (past : List Entry) (v : VolumeData) (x : ClaimData) → any_stood is_reserved setup past ≡ false → WerePair setup past v x → ⊥
no_pair setup [] v x none p =
    true≢false (sym (reserved_is p.volume p.claim p.pair.reserved) ∙ none_at is_reserved (world setup []).store.rows (key_of (Volume p.volume)) (Volume p.volume) p.volume_there none)
no_pair setup (e ∷ past) v x none p =
    let parts = or_parts (any_stood is_reserved setup past) (list_any is_reserved (world setup (e ∷ past)).store.rows) none in
    elim p [
      | inl before ↦ no_pair setup past v x parts.0 before
      | inr now ↦ true≢false (sym (reserved_is now.volume now.claim now.pair.reserved) ∙ none_at is_reserved (world setup (e ∷ past)).store.rows
          (key_of (Volume now.volume)) (Volume now.volume) now.volume_there parts.1)
    ]

later_true : (a b : Bool) → (a && not b) ≡ false → a ≡ true → b ≡ true
later_true true true e h = refl
later_true true false e h = absurd (true≢false e)
later_true false b e h = absurd (true≢false (sym h))

volumes_fresh : (setup : Setup) (past : List Entry) (v : VolumeData) → any_stood is_marked_early setup past ≡ false → is_marked v.meta ≡ true → IsGivenByController setup past v
volumes_fresh setup past v none marked =
    record { marked = marked; fresh = λ o was same is. later_true (is_marked o.meta) (is_some (ref_uid o.claim_ref)) (none_stood is_marked_early setup past (Volume o) none was) is }

fits_3 : Fits (taken a (c 3) 4 volumes.Bound) (done (c 3) a 5)
unfolding taken_for completed_with
fits_3 = record { bytes = omega arith; mode = refl }

fitting_3 : AreFitting (binding 3)
fitting_3 = (((((((tt, tt), tt), tt), tt), giving_examples.fitting), tt), tt)

pub fitting_run_examples : FittingRunExamples
unfolding effect on_devices device_answer outcome create update update_status list with_status written_if_fits refuse refuse_field refuse_rule
    guard_on guard breaks create_fault kind_fault volume_fault claim_fault update_fault changed_field faulty lacks_node admitted_object
    without_status created_object with_status_of updated_object at_version leaves with_meta reply_to world_after reply_of after log_after xor taken_for completed_with
fitting_run_examples = record {
  run = run_of_3;
  fitting = fitting_3;
  counts = record { completed = refl; found = λ lost. absurd (true≢false (sym lost)) };
  gets_enough = record { volume = taken a (c 3) 4 volumes.Bound; there = refl; enough = inl fits_3; decided = λ d. fits_3 };
  given_by_controller = volumes_fresh no_setup (binding 3) (taken a (c 3) 4 volumes.Bound) refl refl;
  named_by_controller = record { marked = refl; fresh = λ x in_x its marked. absurd in_x };
  references_fit = runs_refer_fitting no_setup (binding 3) (record { imports = tt; short = omega arith; run = run_of_3 }) fitting_3;
}

-- what the claim of 9 gets

short_volume : (v : VolumeData) → row_at (volume_key (codes "a")) (world no_setup (binding 9)).store.rows ≡ Some (Volume v) → v ≡ taken a (c 9) 4 volumes.Bound
unfolding effect on_devices device_answer outcome create update update_status list with_status written_if_fits refuse refuse_field refuse_rule
    guard_on guard breaks create_fault kind_fault volume_fault claim_fault update_fault changed_field faulty lacks_node admitted_object
    without_status created_object with_status_of updated_object at_version leaves with_meta reply_to world_after reply_of after log_after xor taken_for completed_with
short_volume v is = some_volume v _ (sym is)

no_pair_of_9 : (v : VolumeData) → WerePair no_setup (binding 9) v (done (c 9) a 5) → ⊥
unfolding effect on_devices device_answer outcome create update update_status list with_status written_if_fits refuse refuse_field refuse_rule
    guard_on guard breaks create_fault kind_fault volume_fault claim_fault update_fault changed_field faulty lacks_node admitted_object
    without_status created_object with_status_of updated_object at_version leaves with_meta reply_to world_after reply_of after log_after xor taken_for completed_with
no_pair_of_9 v p = no_pair no_setup (binding 9) v (done (c 9) a 5) refl p

short_of_9 : Fits (taken a (c 9) 4 volumes.Bound) (done (c 9) a 5) → ⊥
unfolding taken_for completed_with
short_of_9 f = fewer (taken a (c 9) 4 volumes.Bound) (done (c 9) a 5) refl f

gets_9 : GetsEnough no_setup (binding 9) (done (c 9) a 5) → ⊥
unfolding completed_with
gets_9 g = elim g.enough [
  | inl f ↦ short_of_9 (subst (λ v. Fits v (done (c 9) a 5)) (short_volume g.volume g.there) f)
  | inr p ↦ no_pair_of_9 g.volume p
]

counts_9 : Counts no_setup (binding 9) (done (c 9) a 5)
unfolding completed_with
counts_9 = record { completed = refl; found = λ lost. absurd (true≢false (sym lost)) }

pub short_run_examples : ShortRunExamples
unfolding effect on_devices device_answer outcome create update update_status list with_status written_if_fits refuse refuse_field refuse_rule
    guard_on guard breaks create_fault kind_fault volume_fault claim_fault update_fault changed_field faulty lacks_node admitted_object
    without_status created_object with_status_of updated_object at_version leaves with_meta reply_to world_after reply_of after log_after xor taken_for completed_with
short_run_examples = record {
  run = run_of_9;
  counts = counts_9;
  not_fitting = λ f. giving_examples.too_small f.0.0.1;
  were_no_pair = no_pair_of_9 (taken a (c 9) 4 volumes.Bound);
  gets_too_little = gets_9;
  references_misfit = λ h. neither short_of_9 (no_pair_of_9 (taken a (c 9) 4 volumes.Bound))
      (h (volume_key (codes "a")) (claim_key (codes "default") (codes "c")) (taken a (c 9) 4 volumes.Bound) (done (c 9) a 5)
      (uid_of_serial 2) refl refl refl refl refl (λ v x in_v in_x ref its. absurd in_v));
  not_enough = λ g. gets_9 (g (claim_key (codes "default") (codes "c")) (done (c 9) a 5) refl counts_9 refl (λ v x in_v in_x ref its. absurd in_v));
}
