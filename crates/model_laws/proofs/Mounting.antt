-- The row Mount as one cut of the entries since the epoch: those after the pod was told, the one that told it, earlier ones.
use Rattle.std.proofs.Common.{sym, refl, subst, inl, inr, ◌∙◌}
use Rattle.std.proofs.lemmas.List.{append_assoc, append-nil}
use Rattle.std.specs.Prelude.{ℕ, ◌≡◌, true, false, List, [], ◌∷◌, ◌++◌, Some}
use Rattle.kube_parts.specs.declared.uid.Uid.{Uid}
use Rattle.kube_objects.specs.declared.objects.Pod.{Pod as PodData}
use Rattle.kube_objects.specs.declared.objects.Object.{Object}
use Rattle.kube_objects.specs.declared.objects.Object.TheVariants.{Class, Node, Volume, Claim, Pod}
use Rattle.kube_objects.specs.Bindings.{is_deleting}
use Rattle.call_types.specs.declared.entry.Entry.{Entry}
use Rattle.binder_model.specs.ObjectKeys.{pod_key}
use Rattle.binder_model.specs.Told.{SomeOf, TellsObject, IsPodWith, IsNewest, objects_in}
use Rattle.binder_model.specs.AgentLicence.{last_epoch, since_epoch, ListedPods, AreReadReady, IsPodOn, never_finished, IsReadyPod, WasShownReady, MayMount}

-- the evidence of the row, with the cut
pub record MountSplit (mine : List Entry) (node : List ℕ) (epoch : ℕ) (pod : Uid) (claims : List Uid) : Type 0 where
  pub current : last_epoch node mine ≡ Some epoch
  pub recent : List Entry
  pub teller : Entry
  pub earlier : List Entry
  pub since : since_epoch node mine ≡ recent ++ teller ∷ earlier
  pub listed : ListedPods (teller ∷ earlier)
  pub shown : PodData
  pub on_node : IsPodOn pod node shown
  pub told : TellsObject (IsPodWith (λ p. p ≡ shown)) teller
  pub latest : PodData
  pub newest : IsNewest mine (pod_key shown.meta.namespace shown.meta.name) (Pod latest)
  pub same : latest.meta.uid ≡ Some pod
  pub staying : is_deleting latest.meta ≡ false
  pub ready : AreReadReady recent shown.meta.namespace shown.claims claims
  pub unfinished : never_finished pod mine ≡ true

-- a pod among the objects, and what holds of it
record IsTellerOf (P : PodData → Type 0) (os : List Object) : Type 0 where
  shown : PodData
  told : SomeOf (IsPodWith (λ p. p ≡ shown)) os
  holds : P shown

pod_among : (P : PodData → Type 0) (os : List Object) → SomeOf (IsPodWith P) os → IsTellerOf P os
pod_among P [] h = absurd h
pod_among P (Pod p ∷ os) (inl is) = record { shown = p; told = inl refl; holds = is }
pod_among P (Class x ∷ os) (inl is) = absurd is
pod_among P (Node x ∷ os) (inl is) = absurd is
pod_among P (Volume x ∷ os) (inl is) = absurd is
pod_among P (Claim x ∷ os) (inl is) = absurd is
pod_among P (o ∷ os) (inr more) = let t = pod_among P os more in record { shown = t.shown; told = inr t.told; holds = t.holds }

-- where in the entries the pod was told
record IsCut (mine : List Entry) (node : List ℕ) (pod : Uid) (claims : List Uid) (entries : List Entry) : Type 0 where
  recent : List Entry
  teller : Entry
  earlier : List Entry
  since : entries ≡ recent ++ teller ∷ earlier
  listed : ListedPods (teller ∷ earlier)
  told : TellsObject (IsPodWith (IsReadyPod mine recent node pod claims)) teller

cut_at : (mine : List Entry) (node : List ℕ) (pod : Uid) (claims : List Uid) (recent entries : List Entry)
    → WasShownReady mine node pod claims recent entries → IsCut mine node pod claims (recent ++ entries)
cut_at mine node pod claims recent [] h = absurd h
cut_at mine node pod claims recent (e ∷ before) (inl here) =
    record { recent = recent; teller = e; earlier = before; since = refl; listed = here.0; told = here.1 }
cut_at mine node pod claims recent (e ∷ before) (inr more) =
    let c = cut_at mine node pod claims (recent ++ e ∷ []) before more in
    record { recent = c.recent; teller = c.teller; earlier = c.earlier; since = sym (append_assoc recent (e ∷ []) before) ∙ c.since; listed = c.listed; told = c.told }

pub mount_split : (mine : List Entry) (node : List ℕ) (epoch : ℕ) (pod : Uid) (claims : List Uid) → MayMount mine node epoch pod claims → MountSplit mine node epoch pod claims
mount_split mine node epoch pod claims row =
    let c = cut_at mine node pod claims [] (since_epoch node mine) row.shown in
    let t = pod_among (IsReadyPod mine c.recent node pod claims) (objects_in c.teller.reply) c.told.1 in
    let p = t.holds in
    record {
      current = row.current;
      recent = c.recent;
      teller = c.teller;
      earlier = c.earlier;
      since = c.since;
      listed = c.listed;
      shown = t.shown;
      on_node = p.on_node;
      told = (c.told.0, t.told);
      latest = p.latest;
      newest = p.newest;
      same = p.same;
      staying = p.staying;
      ready = p.ready;
      unfinished = row.unfinished;
    }

-- and back
pod_holds : (P : PodData → Type 0) (shown : PodData) (os : List Object) → P shown → SomeOf (IsPodWith (λ p. p ≡ shown)) os → SomeOf (IsPodWith P) os
pod_holds P shown [] holds h = absurd h
pod_holds P shown (Pod p ∷ os) holds (inl is) = inl (subst P (sym is) holds)
pod_holds P shown (Class x ∷ os) holds (inl is) = absurd is
pod_holds P shown (Node x ∷ os) holds (inl is) = absurd is
pod_holds P shown (Volume x ∷ os) holds (inl is) = absurd is
pod_holds P shown (Claim x ∷ os) holds (inl is) = absurd is
pod_holds P shown (o ∷ os) holds (inr more) = inr (pod_holds P shown os holds more)

shown_at : (mine : List Entry) (node : List ℕ) (pod : Uid) (claims : List Uid) (front recent : List Entry) (teller : Entry) (earlier : List Entry)
    → ListedPods (teller ∷ earlier) → TellsObject (IsPodWith (IsReadyPod mine (front ++ recent) node pod claims)) teller
    → WasShownReady mine node pod claims front (recent ++ teller ∷ earlier)
shown_at mine node pod claims front [] teller earlier listed told =
    inl (listed, subst (λ (l : List Entry). TellsObject (IsPodWith (IsReadyPod mine l node pod claims)) teller) (append-nil front) told)
shown_at mine node pod claims front (e ∷ recent) teller earlier listed told =
    inr (shown_at mine node pod claims (front ++ e ∷ []) recent teller earlier listed
    (subst (λ (l : List Entry). TellsObject (IsPodWith (IsReadyPod mine l node pod claims)) teller) (sym (append_assoc front (e ∷ []) recent)) told))

pub mount_joined : (mine : List Entry) (node : List ℕ) (epoch : ℕ) (pod : Uid) (claims : List Uid) → MountSplit mine node epoch pod claims → MayMount mine node epoch pod claims
mount_joined mine node epoch pod claims m =
    let ready : IsReadyPod mine m.recent node pod claims m.shown = record { on_node = m.on_node; latest = m.latest; newest = m.newest; same = m.same; staying = m.staying; ready = m.ready } in
    let told : TellsObject (IsPodWith (IsReadyPod mine m.recent node pod claims)) m.teller = (m.told.0, pod_holds _ m.shown (objects_in m.teller.reply) ready m.told.1) in
    record {
      current = m.current;
      shown = subst (WasShownReady mine node pod claims []) (sym m.since) (shown_at mine node pod claims [] m.recent m.teller m.earlier m.listed told);
      unfinished = m.unfinished;
    }
