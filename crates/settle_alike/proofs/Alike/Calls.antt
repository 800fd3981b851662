-- A call lasts, or leaves the world alike; so do entries.
use Rattle.std.proofs.Common.{◌≡◌, ◌≢◌, ◌∙◌, ◌⊎◌, List, [], ◌∷◌, ◌++◌, Option, Some, None, inl, inr, refl, sym, ap, subst}
use Rattle.std.specs.Prelude.{cond}
use Rattle.std.specs.declared.cmp.Ordering.{Ordering}
use Rattle.std.specs.declared.cmp.Ordering.TheVariants.{Less, Equal, Greater}
use Rattle.std.specs.Ordering.{is_eq, match_ordering}
use Rattle.plain_data.proofs.RowFacts.{find_gap}
use Rattle.kube_objects.specs.declared.objects.Object.{Object}
use Rattle.kube_objects.specs.Keys.{AreRows, key_cmp, key_of, put_row, row_at}
use Rattle.kube_objects.proofs.KeyOrder.{key_cmp_total}
use Rattle.binder_model.specs.Answers.{Removes, Says, Stores, after, reply_of}
use Rattle.binder_model.specs.Devices.{Devices}
use Rattle.binder_model.specs.World.{Effect, OnDevices, OnStore, SetsMoment, World, effect, log_after, reply_to, world, world_after}
use Rattle.model_laws.proofs.Histories.{rows_stand_in_order}
use Rattle.model_laws.proofs.Lists.{none_some, one}
use Rattle.settle_writes.specs.Writes.Lasting.{HasLasting, IsChanged, LastsBetween, content_of}
use Rattle.settle_alike.specs.Alike.Alike.{AreAlike, CallsLastOrLeaveAlike, EntriesLastOrLeaveAlike, contents_of}
use Rattle.settle_alike.proofs.Alike.Equal.{Known, datum_known, list_known, mount_known, object_known}

-- a row put in place of one with its content
put_same : (new old : Object) (rows : List Object) → AreRows rows → row_at (key_of new) rows ≡ Some old → content_of old ≡ content_of new → contents_of (put_row new rows) ≡ contents_of rows
put_same new old [] order there same = none_some there
put_same new old (x ∷ xs) order there same = by (key_cmp (key_of x) (key_of new)) refl there (λ found. put_same new old xs order.1 found same)
  where
    by : (r : Ordering) → key_cmp (key_of x) (key_of new) ≡ r → cond (is_eq r) (Some x) (row_at (key_of new) xs) ≡ Some old
        → (row_at (key_of new) xs ≡ Some old → contents_of (put_row new xs) ≡ contents_of xs)
        → contents_of (match_ordering r (x ∷ put_row new xs) (new ∷ xs) (new ∷ x ∷ xs)) ≡ contents_of (x ∷ xs)
    by Less r found later = ap (λ ys. content_of x ∷ ys) (later found)
    by Equal r found later = ap (λ c. c ∷ contents_of xs) (sym same ∙ ap content_of (sym (one x old found)))
    by Greater r found later = none_some (sym (find_gap key_cmp_total key_of (key_of new) (x ∷ xs) 0 order r) ∙ there)

abbrev pub LastsOrAlike : World → Effect → Type 0
LastsOrAlike w x = LastsBetween w (world_after w x) (reply_to x) ⊎ AreAlike w (world_after w x)

module _ (w : World) (order : AreRows w.store.rows) where
  stores_so : (x : Effect) (o : Object) (row : Option Object) → row_at (key_of o) w.store.rows ≡ row
      → (IsChanged row o → LastsBetween w (world_after w x) (reply_to x)) → ((old : Object) → row ≡ Some old → content_of old ≡ content_of o → AreAlike w (world_after w x)) → LastsOrAlike w x
  stores_so x o None there lasts alike = inl (lasts tt)
  stores_so x o (Some old) there lasts alike = by (object_known (content_of old) (content_of o))
    where
      by : Known (content_of old ≡ content_of o) → LastsOrAlike w x
      by (inl same) = inr (alike old refl same)
      by (inr differs) = inl (lasts differs)

  devices_so : (d : Devices) → Known (d.stored ≡ w.devices.stored) → Known (d.mounts ≡ w.devices.mounts)
      → ((d.stored ≢ w.devices.stored) ⊎ (d.mounts ≢ w.devices.mounts)) ⊎ ((w.devices.stored ≡ d.stored) × (w.devices.mounts ≡ d.mounts))
  devices_so d (inl stored) (inl mounts) = inr (sym stored, sym mounts)
  devices_so d (inr stored) k = inl (inl stored)
  devices_so d (inl stored) (inr mounts) = inl (inr mounts)

  effect_so : (x : Effect) → LastsOrAlike w x
  unfolding world_after reply_to reply_of after log_after
  effect_so (OnStore (Says reply)) = inr (record { rows = refl; stored = refl; mounts = refl })
  effect_so (OnStore (Removes o)) = inl (inl tt)
  effect_so (OnStore (Stores change o)) =
      stores_so (OnStore (Stores change o)) o (row_at (key_of o) w.store.rows) refl (λ changed. inl changed)
      (λ old there same. record { rows = sym (put_same o old w.store.rows order there same); stored = refl; mounts = refl })
  effect_so (OnDevices a) = by (devices_so a.devices (list_known datum_known a.devices.stored w.devices.stored) (list_known mount_known a.devices.mounts w.devices.mounts))
    where
      by : ((a.devices.stored ≢ w.devices.stored) ⊎ (a.devices.mounts ≢ w.devices.mounts))
          ⊎ ((w.devices.stored ≡ a.devices.stored) × (w.devices.mounts ≡ a.devices.mounts)) → LastsOrAlike w (OnDevices a)
      by (inl differs) = inl (inr (inl differs))
      by (inr same) = inr (record { rows = refl; stored = same.0; mounts = same.1 })
  effect_so (SetsMoment at) = inr (record { rows = refl; stored = refl; mounts = refl })

pub calls_last_or_leave_alike : CallsLastOrLeaveAlike
calls_last_or_leave_alike setup w kind request order = effect_so w order (effect setup w kind request)

-- entries

pub then_alike : (a b c : World) → AreAlike a b → AreAlike b c → AreAlike a c
then_alike a b c ab bc = record { rows = ab.rows ∙ bc.rows; stored = ab.stored ∙ bc.stored; mounts = ab.mounts ∙ bc.mounts }

pub entries_last_or_leave_alike : EntriesLastOrLeaveAlike
entries_last_or_leave_alike setup [] past history = inr (record { rows = refl; stored = refl; mounts = refl })
entries_last_or_leave_alike setup (e ∷ newer) past history = by (entries_last_or_leave_alike setup newer past history.0)
  where
    here : LastsOrAlike (world setup (newer ++ past)) (effect setup (world setup (newer ++ past)) e.kind e.request)
    here = calls_last_or_leave_alike setup (world setup (newer ++ past)) e.kind e.request (rows_stand_in_order setup (newer ++ past))

    by_this : AreAlike (world setup past) (world setup (newer ++ past)) → LastsOrAlike (world setup (newer ++ past)) (effect setup (world setup (newer ++ past)) e.kind e.request)
        → HasLasting setup past (e ∷ newer ++ past) ⊎ AreAlike (world setup past) (world setup (e ∷ newer ++ past))
    by_this before (inl lasts) = inl (record
        { entry = e; newer = []; older = newer; are = refl; lasts = subst (λ reply. LastsBetween (world setup (newer ++ past)) (world setup (e ∷ newer ++ past)) reply) (sym history.1) lasts })
    by_this before (inr alike) = inr (then_alike _ _ _ before alike)

    by : HasLasting setup past (newer ++ past) ⊎ AreAlike (world setup past) (world setup (newer ++ past))
        → HasLasting setup past (e ∷ newer ++ past) ⊎ AreAlike (world setup past) (world setup (e ∷ newer ++ past))
    by (inl l) = inl (record { entry = l.entry; newer = e ∷ l.newer; older = l.older; are = ap (λ es. e ∷ es) l.are; lasts = l.lasts })
    by (inr alike) = by_this alike here
