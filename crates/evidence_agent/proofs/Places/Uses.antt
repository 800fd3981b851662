-- What the places of last entries show of an agent's rows.
use Rattle.std.proofs.Common.{◌∙◌, ◌≡◌, ℕ, suc, ◌<◌, ◌≤◌, List, [], ◌∷◌, ◌++◌, length, Bool, true, false, true≢false, Option, Some, None, inl, inr, refl, sym, ap, arith, subst, if◌then◌else◌}
use Rattle.std.specs.Prelude.{is_some}
use Rattle.std.proofs.lemmas.List.{append_assoc}
use Rattle.kube_parts.specs.declared.uid.Uid.{Uid}
use Rattle.kube_objects.specs.declared.key.Key.{Key}
use Rattle.kube_objects.specs.declared.objects.Claim.{Claim as ClaimData}
use Rattle.kube_objects.specs.declared.objects.DataId.{DataId}
use Rattle.kube_objects.specs.declared.objects.Volume.{Volume as VolumeData}
use Rattle.kube_objects.specs.declared.objects.Pod.{Pod as PodData}
use Rattle.kube_objects.specs.declared.objects.Object.{Object}
use Rattle.kube_objects.specs.declared.objects.Object.TheVariants.{Claim, Pod, Volume}
use Rattle.call_types.specs.declared.entry.Entry.{Entry}
use Rattle.call_types.specs.declared.reply.Reply.{Reply}
use Rattle.call_types.specs.declared.reply.Reply.TheVariants as replies
use Rattle.binder_model.specs.Told.{SomeOf, TellsObject, IsPodWith, first_some, found_over, last_found, objects_in}
use Rattle.kube_objects.specs.Bindings.{carries, is_completed, is_deleting, is_protected_claim}
use Rattle.binder_model.specs.BindWrites.{is_claim_bound}
use Rattle.binder_model.specs.ObjectKeys.{claim_key, volume_key}
use Rattle.binder_model.specs.AgentLicence.{IsReadReady, IsReadyPod, ListedPods, WasShownReady, epoch_in, last_epoch, last_get, never_finished, since_epoch, since_get, was_told_unmounted}
use Rattle.evidence_agent.specs.Places.Places.{TellsAt}
use Rattle.evidence_agent.specs.Places.Steps.Since.{Above, Done, Here, IsNever, IsPodList, IsQuietBehind, Later, More, Since, StandsAt, finds, finishes, gets, mounts, takes, tells_unmounted}
use Rattle.evidence_agent.proofs.Places.Since.{since_below, stands_below}

-- the last epoch

pub epoch_since : (node : List ℕ) (epoch : ℕ) (mine : List Entry) (place : ℕ) (entry : Entry) → Since (takes node) mine place entry
    → epoch_in node entry ≡ Some epoch → last_epoch node mine ≡ Some epoch
epoch_since node epoch mine place entry (Here {mine = older} e at) is = rw is refl
epoch_since node epoch mine place entry (Later {mine = older} e quiet since) is = by (epoch_in node e) quiet (epoch_since node epoch older place entry since is)
  where
    by : (o : Option ℕ) → is_some o ≡ false → last_epoch node older ≡ Some epoch → first_some o (last_epoch node older) ≡ Some epoch
    by None h rest = rest
    by (Some n) h rest = absurd (true≢false h)

-- the last volume that a read found over the data

pub found_since : (id : DataId) (v : VolumeData) (mine : List Entry) (place : ℕ) (entry : Entry) → Since (finds id) mine place entry
    → found_over id entry.told entry.reply ≡ Some v → last_found id mine ≡ Some v
found_since id v mine place entry (Here {mine = older} e at) is = rw is refl
found_since id v mine place entry (Later {mine = older} e quiet since) is = by (found_over id e.told e.reply) quiet (found_since id v older place entry since is)
  where
    by : (o : Option VolumeData) → is_some o ≡ false → last_found id older ≡ Some v → first_some o (last_found id older) ≡ Some v
    by None h rest = rest
    by (Some u) h rest = absurd (true≢false h)

-- never asked to finish the pod

pub never_is : (pod : Uid) (mine : List Entry) → IsNever (finishes pod) mine → never_finished pod mine ≡ true
never_is pod [] h = refl
never_is pod (e ∷ mine) h = rw h.0 (never_is pod mine h.1)

-- the mounts were told without the pod, and no call after that was to mount it

pub unmounted_since : (node : List ℕ) (epoch : ℕ) (pod : Uid) (mine : List Entry) (taken place : ℕ) (entry rows : Entry)
    → Since (takes node) mine taken entry → StandsAt mine place rows → taken < place → IsQuietBehind (mounts pod) place mine
    → tells_unmounted node epoch pod rows ≡ true → was_told_unmounted node epoch pod (since_epoch node mine) ≡ true
unmounted_since node epoch pod mine taken place entry rows (Here {mine = older} e at) (inl h) after quiet is = let there = h.0 in absurd (omega (arith, at, there, after))
unmounted_since node epoch pod mine taken place entry rows (Here {mine = older} e at) (inr h) after quiet is = let below = stands_below older place rows h in absurd (omega (arith, at, below, after))
unmounted_since node epoch pod mine taken place entry rows (Later {mine = older} e passed since) (inl h) after quiet is =
    rw passed (rw (subst (λ (x : Entry). tells_unmounted node epoch pod x ≡ true) (sym h.1) is) refl)
unmounted_since node epoch pod mine taken place entry rows (Later {mine = older} e passed since) (inr h) after quiet is =
    rw passed (go (tells_unmounted node epoch pod e) (mounts pod e) _ (quiet.0 (stands_below older place rows h))
    (unmounted_since node epoch pod older taken place entry rows since h after quiet.1 is))
  where
    go : (told mounted rest : Bool) → mounted ≡ false → rest ≡ true → (if told then true else (if mounted then false else rest)) ≡ true
    go true mounted rest quiet h = refl
    go false true rest quiet h = absurd (true≢false quiet)
    go false false rest quiet h = h

-- the entries behind the one at a place

above_below : (place : ℕ) (mine recent : List Entry) → Above place mine recent → place < length mine
above_below place mine recent (Done at) = omega (arith, at)
above_below place mine recent (More {mine = older} {recent = newer} e above) = let below = above_below place older newer above in omega (arith, below)

-- the last read of a key behind a place, and what stands behind that read

pub get_above : (key : Key) (place : ℕ) (mine recent : List Entry) (read : ℕ) (entry : Entry) → Above place mine recent
    → Since (gets key) mine read entry → place < read → gets key entry ≡ true → last_get key recent ≡ Some entry.reply
get_above key place mine recent read entry (Done at) (Here {mine = older} e is) after got = absurd (omega (arith, at, is, after))
get_above key place mine recent read entry (Done at) (Later {mine = older} e quiet since) after got = let below =
    since_below (gets key) older read entry since in absurd (omega (arith, at, below, after))
get_above key place mine recent read entry (More {mine = older} {recent = newer} e above) (Here _ is) after got = rw got refl
get_above key place mine recent read entry (More {mine = older} {recent = newer} e above) (Later _ quiet since) after got = rw quiet (get_above key place older newer read entry above since after got)

pub since_above : (key : Key) (place : ℕ) (mine recent : List Entry) (read : ℕ) (entry : Entry) → Above place mine recent
    → Since (gets key) mine read entry → place < read → gets key entry ≡ true → Above read mine (since_get key recent)
since_above key place mine recent read entry (Done at) (Here {mine = older} e is) after got = absurd (omega (arith, at, is, after))
since_above key place mine recent read entry (Done at) (Later {mine = older} e quiet since) after got = let below =
    since_below (gets key) older read entry since in absurd (omega (arith, at, below, after))
since_above key place mine recent read entry (More {mine = older} {recent = newer} e above) (Here _ is) after got = rw got (Done (ap suc is))
since_above key place mine recent read entry (More {mine = older} {recent = newer} e above) (Later _ quiet since) after got =
    rw quiet (More e (since_above key place older newer read entry above since after got))

-- an object that was told at a place

pub tells_below : (mine : List Entry) (place : ℕ) (o : Object) → TellsAt mine place o → place < length mine
tells_below [] place pod h = absurd h
tells_below (e ∷ mine) place pod (inl h) = let at = h.0 in omega (arith, at)
tells_below (e ∷ mine) place pod (inr h) = let below = tells_below mine place pod h in omega (arith, below)

pub above_told : (mine : List Entry) (place : ℕ) (o : Object) → TellsAt mine place o → (recent : List Entry) × Above place mine recent
above_told [] place pod h = absurd h
above_told (e ∷ mine) place pod (inl h) = ([], Done (ap suc h.0))
above_told (e ∷ mine) place pod (inr h) = let rest = above_told mine place pod h in (e ∷ rest.0, More e rest.1)

-- the list of all pods at a place

listed_since : (node : List ℕ) (mine : List Entry) (taken listed : ℕ) (entry list : Entry) → Since (takes node) mine taken entry
    → StandsAt mine listed list → taken < listed → IsPodList list → ListedPods (since_epoch node mine)
listed_since node mine taken listed entry list (Here {mine = older} e at) (inl h) after is = let there = h.0 in absurd (omega (arith, at, there, after))
listed_since node mine taken listed entry list (Here {mine = older} e at) (inr h) after is = let below = stands_below older listed list h in absurd (omega (arith, at, below, after))
listed_since node mine taken listed entry list (Later {mine = older} e quiet since) (inl h) after is = rw quiet (inl (subst IsPodList (sym h.1) is))
listed_since node mine taken listed entry list (Later {mine = older} e quiet since) (inr h) after is = rw quiet (inr (listed_since node older taken listed entry list since h after is))

some_map : (P Q : Object → Type 0) → ((x : Object) → P x → Q x) → (xs : List Object) → SomeOf P xs → SomeOf Q xs
some_map P Q f [] h = elim h [ ]
some_map P Q f (x ∷ xs) (inl p) = inl (f x p)
some_map P Q f (x ∷ xs) (inr h) = inr (some_map P Q f xs h)

pub told_ready : (P : PodData → Type 0) (pod : PodData) (e : Entry) → P pod → TellsObject (λ x. x ≡ Pod pod) e → TellsObject (IsPodWith P) e
told_ready P pod e p h = (h.0, some_map (λ x. x ≡ Pod pod) (IsPodWith P) (λ x is. subst (IsPodWith P) (sym is) p) (objects_in e.reply) h.1)

nothing_behind : (xs : List Entry) → xs ++ [] ≡ xs
nothing_behind [] = refl
nothing_behind (x ∷ xs) = ap (λ ys. x ∷ ys) (nothing_behind xs)

-- the pod was told behind the epoch, and a list of all pods between
pub shown_since : (all : List Entry) (node : List ℕ) (uid : Uid) (claims : List Uid) (pod : PodData) (before mine recent : List Entry) (taken listed shown : ℕ) (entry list : Entry)
    → Since (takes node) mine taken entry → Above shown mine recent → TellsAt mine shown (Pod pod) → StandsAt mine listed list → taken < listed → listed ≤ shown → IsPodList list
    → IsReadyPod all (before ++ recent) node uid claims pod → WasShownReady all node uid claims before (since_epoch node mine)
shown_since all node uid claims pod before mine recent taken listed shown entry list (Here {mine = older} e at) above
    (inl told) stands after upto is ready = let there = told.0 in absurd (omega (arith, at, there, after, upto))
shown_since all node uid claims pod before mine recent taken listed shown entry list (Here {mine = older} e at) above
    (inr told) stands after upto is ready = let below = tells_below older shown (Pod pod) told in absurd (omega (arith, at, below, after, upto))
shown_since all node uid claims pod before mine recent taken listed shown entry list (Later {mine = older} e quiet since) (Done at) (inl told) stands after upto is ready =
    rw quiet (inl (listed_here stands, told_ready (IsReadyPod all before node uid claims) pod e (subst (λ r. IsReadyPod all r node uid claims pod) (nothing_behind before) ready) told.1))
  where
    listed_here : StandsAt (e ∷ older) listed list → ListedPods (e ∷ since_epoch node older)
    listed_here (inl h) = inl (subst IsPodList (sym h.1) is)
    listed_here (inr h) = inr (listed_since node older taken listed entry list since h after is)
shown_since all node uid claims pod before mine recent taken listed shown entry list (Later {mine = older} e quiet since) (Done at)
    (inr told) stands after upto is ready = let below = tells_below older shown (Pod pod) told in absurd (omega (arith, at, below))
shown_since all node uid claims pod before mine recent taken listed shown entry list (Later {mine = older} e quiet since)
    (More {recent = newer} _ above) (inl told) stands after upto is ready = let below = above_below shown older newer above in let there = told.0 in absurd (omega (arith, below, there))
shown_since all node uid claims pod before mine recent taken listed shown entry list (Later {mine = older} e quiet since)
    (More {recent = newer} _ above) (inr told) (inl here) after upto is ready = let below = tells_below older shown (Pod pod) told in let there = here.0 in absurd (omega (arith, below, there, upto))
shown_since all node uid claims pod before mine recent taken listed shown entry list (Later {mine = older} e quiet since) (More {recent = newer} _ above) (inr told) (inr stands) after upto is ready =
    rw quiet (inr (shown_since all node uid claims pod
    (before ++ e ∷ []) older newer taken listed shown entry list since above told stands after upto is
    (subst (λ r. IsReadyPod all r node uid claims pod) (sym (append_assoc before (e ∷ []) newer)) ready)))

-- a claim and its volume, read behind a place
pub read_ready : (place : ℕ) (mine recent : List Entry) (namespace name : List ℕ) (uid : Uid) (claim : ClaimData) (volume : VolumeData) (read after : ℕ) (entry last : Entry)
    → Above place mine recent
    → Since (gets (claim_key namespace name)) mine read entry → place < read → gets (claim_key namespace name) entry ≡ true → entry.reply ≡ replies.Found (Claim claim)
    → Since (gets (volume_key claim.volume_name)) mine after last → read < after → gets (volume_key claim.volume_name) last ≡ true → last.reply ≡ replies.Found (Volume volume)
    → claim.meta.uid ≡ Some uid → is_deleting claim.meta ≡ false → is_protected_claim claim ≡ true → is_completed claim ≡ true → is_claim_bound claim.phase ≡ true → carries volume claim ≡ true
    → IsReadReady recent namespace name uid
read_ready place mine recent namespace name uid claim volume read after entry last above since behind got is since_last behind_last got_last is_last
    same staying guarded completed bound carried = record {
      claim = claim;
      read = get_above (claim_key namespace name) place mine recent read entry above since behind got ∙ ap (λ (r : Reply). Some r) is;
      same = same;
      staying = staying;
      guarded = guarded;
      completed = completed;
      bound = bound;
      volume = volume;
      volume_read = get_above (volume_key claim.volume_name) read mine (since_get (claim_key namespace name) recent) after last
          (since_above (claim_key namespace name) place mine recent read entry above since behind got) since_last behind_last got_last ∙ ap (λ (r : Reply). Some r) is_last;
      carries = carried;
    }
