-- What was read since a pod was told: the earlier it was told, the more. Only entries from the first list of pods on count.
use Rattle.std.proofs.Common.{◌≡◌, ◌↔◌, IsTrue, ℕ, suc, ◌+◌, Bool, true, false, List, [], ◌∷◌, ◌++◌, Some, length, reverse, drop, take, refl, sym, ◌∙◌, ap, subst, inl, inr}
use Rattle.std.specs.Prelude.{◌&&◌, if◌then◌else◌}
use Rattle.std.proofs.lemmas.List.{append_assoc, append-nil}
use Rattle.kube_parts.specs.declared.uid.Uid.{Uid}
use Rattle.kube_objects.specs.declared.key.Key.{Key}
use Rattle.kube_objects.specs.declared.objects.Pod.{Pod as PodData}
use Rattle.kube_objects.specs.declared.objects.Object.{Object}
use Rattle.kube_objects.specs.declared.objects.Object.TheVariants.{Class, Node, Volume, Claim, Pod}
use Rattle.call_types.specs.declared.entry.Entry.{Entry}
use Rattle.call_types.specs.declared.reply.Reply.{Reply}
use Rattle.call_types.specs.declared.reply.Reply.TheVariants as replies
use Rattle.binder_model.specs.AgentLicence.{AreReadReady, IsReadReady, IsReadyPod, ListedPods, WasShownReady, is_get_of, is_pod_list, last_get, since_get}
use Rattle.binder_model.specs.ObjectKeys.{claim_key, pod_key, volume_key}
use Rattle.binder_model.specs.Told.{IsNewest, IsPodWith, TellsObject, ToldPod, objects_in}
use Rattle.model_laws.proofs.Lists.{none_some, some_map}
use Rattle.licence_scans.proofs.Fronts.{cut_at, newer}
use Rattle.licence_agent.specs.Mounting.{IsFirstList, IsFirstReady, IsSameShown, IsShownIn}

pub ready_lengths : (recent : List Entry) (namespace : List ℕ) (names : List (List ℕ)) (uids : List Uid) → AreReadReady recent namespace names uids → length names ≡ length uids
ready_lengths recent namespace [] [] h = refl
ready_lengths recent namespace [] (u ∷ us) h = elim h [ ]
ready_lengths recent namespace (n ∷ ns) [] h = elim h [ ]
ready_lengths recent namespace (n ∷ ns) (u ∷ us) h = ap suc (ready_lengths recent namespace ns us h.1)

-- the last read of a key is that of more entries too

get_longer : (key : Key) (recent more : List Entry) (r : Reply) → last_get key recent ≡ Some r → last_get key (recent ++ more) ≡ Some r
get_longer key [] more r e = none_some e
get_longer key (x ∷ recent) more r e = by (x.told && is_get_of key x.request) (get_longer key recent more r) e
  where
    by : (b : Bool) → (last_get key recent ≡ Some r → last_get key (recent ++ more) ≡ Some r)
        → (if b then Some x.reply else last_get key recent) ≡ Some r → (if b then Some x.reply else last_get key (recent ++ more)) ≡ Some r
    by true rest e = e
    by false rest e = rest e

since_longer : (key : Key) (recent more : List Entry) (r : Reply) → last_get key recent ≡ Some r → since_get key (recent ++ more) ≡ since_get key recent
since_longer key [] more r e = none_some e
since_longer key (x ∷ recent) more r e = by (x.told && is_get_of key x.request) (since_longer key recent more r) e
  where
    by : (b : Bool) → (last_get key recent ≡ Some r → since_get key (recent ++ more) ≡ since_get key recent) → (if b then Some x.reply else last_get key recent) ≡ Some r
        → (if b then [] else x ∷ since_get key (recent ++ more)) ≡ (if b then [] else x ∷ since_get key recent)
    by true rest e = refl
    by false rest e = ap (λ xs. x ∷ xs) (rest e)

read_longer : (recent more : List Entry) (namespace name : List ℕ) (uid : Uid) → IsReadReady recent namespace name uid → IsReadReady (recent ++ more) namespace name uid
read_longer recent more namespace name uid r = record {
  claim = r.claim;
  read = get_longer (claim_key namespace name) recent more (replies.Found (Claim r.claim)) r.read;
  same = r.same;
  staying = r.staying;
  guarded = r.guarded;
  completed = r.completed;
  bound = r.bound;
  volume = r.volume;
  volume_read = subst (λ xs. last_get (volume_key r.claim.volume_name) xs ≡ Some (replies.Found (Volume r.volume)))
      (sym (since_longer (claim_key namespace name) recent more (replies.Found (Claim r.claim)) r.read)) r.volume_read;
  carries = r.carries;
}

reads_longer : (recent more : List Entry) (namespace : List ℕ) (names : List (List ℕ)) (uids : List Uid) → AreReadReady recent namespace names uids → AreReadReady (recent ++ more) namespace names uids
reads_longer recent more namespace [] [] h = h
reads_longer recent more namespace [] (u ∷ us) h = elim h [ ]
reads_longer recent more namespace (n ∷ ns) [] h = elim h [ ]
reads_longer recent more namespace (n ∷ ns) (u ∷ us) h = (read_longer recent more namespace n u h.0, reads_longer recent more namespace ns us h.1)

module _ (mine : List Entry) (node : List ℕ) (pod : Uid) (claims : List Uid) where
  ready_longer : (recent more : List Entry) (shown : PodData) → IsReadyPod mine recent node pod claims shown → IsReadyPod mine (recent ++ more) node pod claims shown
  ready_longer recent more shown r = record {
    on_node = r.on_node;
    latest = r.latest;
    newest = r.newest;
    same = r.same;
    staying = r.staying;
    ready =
        reads_longer recent more shown.meta.namespace shown.claims claims r.ready;
  }

  ready_same : (recent : List Entry) (shown p : PodData) → IsReadyPod mine recent node pod claims shown → IsSameShown node pod shown p → IsReadyPod mine recent node pod claims p
  ready_same recent shown p r s = record {
    on_node = s.on_node;
    latest = r.latest;
    newest = subst (λ n. IsNewest mine (pod_key n p.meta.name) (Pod r.latest)) (sym s.placed) (subst (λ n. IsNewest mine (pod_key shown.meta.namespace n) (Pod r.latest)) (sym s.named) r.newest);
    same = r.same;
    staying = r.staying;
    ready = subst (λ n. AreReadReady recent n p.claims claims) (sym s.placed) (subst (λ c. AreReadReady recent shown.meta.namespace c claims) (sym s.claims) r.ready);
  }

  pod_same : (recent : List Entry) (shown : PodData) → IsReadyPod mine recent node pod claims shown → (o : Object)
      → IsPodWith (IsSameShown node pod shown) o → IsPodWith (IsReadyPod mine recent node pod claims) o
  pod_same recent shown r (Pod p) s = ready_same recent shown p r s
  pod_same recent shown r (Class p) s = absurd s
  pod_same recent shown r (Node p) s = absurd s
  pod_same recent shown r (Volume p) s = absurd s
  pod_same recent shown r (Claim p) s = absurd s

  -- a pod that is ready by fewer entries was told earlier too: it is ready there
  earlier_ready : (recent older : List Entry) (shown : PodData) → IsReadyPod mine recent node pod claims shown
      → ToldPod (IsSameShown node pod shown) older → IsShownIn mine node pod claims recent older
  earlier_ready recent [] shown r h = elim h [ ]
  earlier_ready recent (y ∷ ys) shown r (inl t) =
      inl (t.0, some_map {P = IsPodWith (IsSameShown node pod shown)} {Q = IsPodWith (IsReadyPod mine recent node pod claims)} (pod_same recent shown r) (objects_in y.reply) t.1)
  earlier_ready recent (y ∷ ys) shown r (inr h) = inr (earlier_ready (recent ++ y ∷ []) ys shown (ready_longer recent (y ∷ []) shown r) h)

  first_pod : (recent older : List Entry) (e : Entry) → (IsShownIn mine node pod claims (recent ++ e ∷ []) older → ⊥) → (o : Object)
      → IsPodWith (IsReadyPod mine recent node pod claims) o → IsPodWith (IsFirstReady mine recent older node pod claims) o
  first_pod recent older e none (Pod p) r = record { first = λ told. none (earlier_ready (recent ++ e ∷ []) older p (ready_longer recent (e ∷ []) p r) told); ready = r }
  first_pod recent older e none (Class p) r = absurd r
  first_pod recent older e none (Node p) r = absurd r
  first_pod recent older e none (Volume p) r = absurd r
  first_pod recent older e none (Claim p) r = absurd r

  ready_pod : (recent older : List Entry) (o : Object) → IsPodWith (IsFirstReady mine recent older node pod claims) o → IsPodWith (IsReadyPod mine recent node pod claims) o
  ready_pod recent older (Pod p) f = f.ready
  ready_pod recent older (Class p) f = absurd f
  ready_pod recent older (Node p) f = absurd f
  ready_pod recent older (Volume p) f = absurd f
  ready_pod recent older (Claim p) f = absurd f

  -- none of the older entries shows such a pod, and this one tells none as the first: none up to it does
  pub none_shown : (recent older : List Entry) (e : Entry) → (IsShownIn mine node pod claims (recent ++ e ∷ []) older → ⊥)
      → (TellsObject (IsPodWith (IsFirstReady mine recent older node pod claims)) e → ⊥) → IsShownIn mine node pod claims recent (e ∷ older) → ⊥
  none_shown recent older e none not (inl t) =
      not (
        t.0,
        some_map {P = IsPodWith (IsReadyPod mine recent node pod claims)} {Q = IsPodWith (IsFirstReady mine recent older node pod claims)}
            (first_pod recent older e none) (objects_in e.reply) t.1,
      )
  none_shown recent older e none not (inr h) = none h

  shown_behind : (recent xs ys : List Entry) → IsShownIn mine node pod claims (recent ++ xs) ys → IsShownIn mine node pod claims recent (xs ++ ys)
  shown_behind recent [] ys h = subst (λ r. IsShownIn mine node pod claims r ys) (append-nil recent) h
  shown_behind recent (x ∷ xs) ys h = inr (shown_behind (recent ++ x ∷ []) xs ys (subst (λ r. IsShownIn mine node pod claims r ys) (sym (append_assoc recent (x ∷ []) xs)) h))

  pub shown_at : (recent older : List Entry) (e : Entry) → TellsObject (IsPodWith (IsFirstReady mine recent older node pod claims)) e → IsShownIn mine node pod claims [] (recent ++ e ∷ older)
  shown_at recent older e t = shown_behind [] recent (e ∷ older) (inl
      (t.0, some_map {P = IsPodWith (IsFirstReady mine recent older node pod claims)} {Q = IsPodWith (IsReadyPod mine recent node pod claims)} (ready_pod recent older) (objects_in e.reply) t.1))

  -- a pod is shown only after the first list of pods

  shown_listed : (recent xs : List Entry) → WasShownReady mine node pod claims recent xs → ListedPods xs
  shown_listed recent [] h = elim h [ ]
  shown_listed recent (x ∷ xs) (inl t) = t.0
  shown_listed recent (x ∷ xs) (inr h) = inr (shown_listed (recent ++ x ∷ []) xs h)

  listed_in : (xs old : List Entry) (l : Entry) → (l.told ≡ true) × (is_pod_list l.request l.reply ≡ true) → ListedPods (xs ++ l ∷ old)
  listed_in [] old l is = inl is
  listed_in (x ∷ xs) old l is = inr (listed_in xs old l is)

  since_list : (recent xs old : List Entry) (l : Entry) → (ListedPods old → ⊥) → WasShownReady mine node pod claims recent (xs ++ l ∷ old) → IsShownIn mine node pod claims recent (xs ++ l ∷ [])
  since_list recent [] old l none (inl t) = inl t.1
  since_list recent [] old l none (inr h) = absurd (none (shown_listed (recent ++ l ∷ []) old h))
  since_list recent (x ∷ xs) old l none (inl t) = inl t.1
  since_list recent (x ∷ xs) old l none (inr h) = inr (since_list (recent ++ x ∷ []) xs old l none h)

  list_since : (recent xs old : List Entry) (l : Entry) → (l.told ≡ true) × (is_pod_list l.request l.reply ≡ true)
      → IsShownIn mine node pod claims recent (xs ++ l ∷ []) → WasShownReady mine node pod claims recent (xs ++ l ∷ old)
  list_since recent [] old l is (inl t) = inl (inl is, t)
  list_since recent [] old l is (inr h) = absurd h
  list_since recent (x ∷ xs) old l is (inl t) = inl (inr (listed_in xs old l is), t)
  list_since recent (x ∷ xs) old l is (inr h) = inr (list_since (recent ++ x ∷ []) xs old l is h)

  pub shown_since : (since : List Entry) (place : ℕ) (b : Bool) → IsFirstList since place
      → (IsTrue b ↔ IsShownIn mine node pod claims [] (reverse (drop place since))) → (IsTrue b ↔ WasShownReady mine node pod claims [] (reverse since))
  shown_since since place b first is =
      let l = first.entry in
      let xs = reverse (drop (place + 1) since) in
      let old = reverse (take place since) in
      let all : reverse since ≡ xs ++ l ∷ old = cut_at since place l first.within ∙ ap (λ e. xs ++ e ∷ old) (sym first.there) in
      let part : reverse (drop place since) ≡ xs ++ l ∷ [] = newer since place (place + 1) l first.within refl ∙ ap (λ e. xs ++ e ∷ []) (sym first.there) in (
        (λ t. subst (WasShownReady mine node pod claims []) (sym all) (list_since [] xs old l first.is (subst (IsShownIn mine node pod claims []) part (is.0 t)))),
        (λ h. is.1 (subst (IsShownIn mine node pod claims []) (sym part) (since_list [] xs old l first.before (subst (WasShownReady mine node pod claims []) all h)))),
      )

  pub unlisted : (xs : List Entry) → (ListedPods xs → ⊥) → WasShownReady mine node pod claims [] xs → ⊥
  unlisted xs none h = none (shown_listed [] xs h)
