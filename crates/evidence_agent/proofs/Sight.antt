-- What a look-up in an agent's index shows.
use Rattle.std.proofs.Common.{◌≡◌, inl, inr, None, ℕ, zero, suc, ◌<◌, ◌≤◌, List, [], ◌∷◌, length, drop, get_or, reverse, true, Option, Some, refl, sym, ◌∙◌, ap, arith, subst}
use Rattle.std.specs.Prelude.{is_some}
use Rattle.kube_parts.specs.declared.uid.Uid.{Uid}
use Rattle.kube_objects.specs.declared.key.Key.{Key}
use Rattle.kube_parts.specs.declared.parts.Kind.TheVariants as kinds
use Rattle.kube_objects.specs.declared.objects.Claim.{Claim as ClaimData}
use Rattle.kube_objects.specs.declared.objects.Object.{Object}
use Rattle.kube_objects.specs.declared.objects.Pod.{Pod as PodData}
use Rattle.kube_objects.specs.declared.objects.Object.TheVariants.{Claim, Pod}
use Rattle.evidence_agent.specs.declared.pods.ToldPod.{ToldPod}
use Rattle.evidence_agent.specs.Pods.{AreTold}
use Rattle.call_types.specs.declared.entry.Entry.{Entry}
use Rattle.call_types.specs.declared.reply.Reply.TheVariants.{Done, Found}
use Rattle.binder_model.specs.AgentLicence.{AreReadReady, IsEndingPod, IsReadReady, MayFinish, MayMount, WasShownReady, epoch_in, last_epoch, never_finished, since_epoch}
use Rattle.binder_model.specs.Reading.{NamesClaim}
use Rattle.binder_model.specs.Told.{IsPodWith, SomeOf, TellsObject, ToldObject, ToldPod as WasTold}
use Rattle.binder_model.specs.ObjectKeys.{claim_key}
use Rattle.evidence_agent.specs.declared.by_place.topics.Topic.{Topic}
use Rattle.evidence_agent.specs.declared.by_place.topics.Matter.TheVariants as matters
use Rattle.evidence_agent.specs.Places.Topics.{about_key, about_name, about_pod, last_of}
use Rattle.evidence_agent.specs.Places.Places.{TellsAt}
use Rattle.evidence_agent.specs.Places.Steps.Since.{IsQuietBehind, IsUpto, StandsAt, finishes, gets, mounts, takes, tells_unmounted}
use Rattle.evidence_agent.proofs.Places.Since.{last_behind, last_never, last_since, read_stands, stands_some}
use Rattle.evidence_agent.proofs.Places.Hearing.{finishes_heard, gets_heard, mounts_heard, takes_heard}
use Rattle.evidence_agent.proofs.Places.Uses.{above_told, epoch_since, never_is, read_ready, shown_since, told_ready, unmounted_since}
use Rattle.model_laws.proofs.Evidence.{told_map}
use Rattle.evidence_pages.specs.Parts.{IsPart}
use Rattle.evidence_pages.proofs.Growing.{told_grows}
use Rattle.evidence_pages.proofs.Telling.{done_tells}
use Rattle.evidence_agent.specs.Steps.Seen.{AreReadBehind, IsRead, IsShown, IsTakenAt, IsToMount, IsUnmounted, IsVolumeRead, TellsNaming}

pub taken_by : (entries : List Entry) (node : List ℕ) (epoch : ℕ) (t : Topic) (answer : Option ℕ) (place : ℕ) (d : Entry)
    → t ≡ about_name matters.Taken node → answer ≡ last_of t (reverse entries) → answer ≡ Some place → place < length entries
    → epoch_in node (get_or entries place d) ≡ Some epoch → IsTakenAt (reverse entries) node epoch place
taken_by entries node epoch t answer place d about looked found within is = record {
  entry = get_or entries place d;
  since = last_since (about_name matters.Taken node) (takes node) (takes_heard node) (reverse entries) place (get_or entries place d)
      (subst (λ (u : Topic). last_of u (reverse entries) ≡ Some place) about (sym looked ∙ found)) (read_stands entries place d within);
  is = is;
}

pub read_by : (entries : List Entry) (key : Key) (behind : ℕ) (t : Topic) (answer : Option ℕ) (place : ℕ) (d : Entry)
    → t ≡ about_key matters.Read key → answer ≡ last_of t (reverse entries) → answer ≡ Some place → place < length entries → behind < place
    → gets key (get_or entries place d) ≡ true → IsRead (reverse entries) key behind place (get_or entries place d).reply
read_by entries key behind t answer place d about looked found within later got = record {
  entry = get_or entries place d;
  since = last_since (about_key matters.Read key) (gets key) (gets_heard key) (reverse entries) place (get_or entries place d)
      (subst (λ (u : Topic). last_of u (reverse entries) ≡ Some place) about (sym looked ∙ found)) (read_stands entries place d within);
  later = later;
  got = got;
  answer = refl;
}

pub current_by : (mine : List Entry) (node : List ℕ) (epoch place : ℕ) → IsTakenAt mine node epoch place → last_epoch node mine ≡ Some epoch
current_by mine node epoch place taken = epoch_since node epoch mine place taken.entry taken.since taken.is

-- a node that was taken
pub taken_is : (mine : List Entry) (node : List ℕ) (epoch place : ℕ) → IsTakenAt mine node epoch place → is_some (last_epoch node mine) ≡ true
taken_is mine node epoch place taken = ap is_some (current_by mine node epoch place taken)

pub ready_by : (mine : List Entry) (behind place : ℕ) (namespace name : List ℕ) (uid : Uid) (claim : ClaimData)
    → IsRead mine (claim_key namespace name) behind place (Found (Claim claim)) → IsToMount claim uid → IsVolumeRead mine claim place
    → AreReadBehind mine behind (λ recent. IsReadReady recent namespace name uid)
ready_by mine behind place namespace name uid claim read fit volume recent above =
    read_ready behind mine recent namespace name uid claim volume.volume place volume.place read.entry volume.read.entry above read.since read.later
    read.got read.answer volume.read.since volume.read.later volume.read.got volume.read.answer fit.same fit.staying fit.guarded fit.completed fit.bound volume.carries

pub ready_from : (mine : List Entry) (behind place : ℕ) (a b namespace name : List ℕ) (uid : Uid) (claim : ClaimData) → a ≡ namespace → b ≡ name
    → IsRead mine (claim_key a b) behind place (Found (Claim claim)) → IsToMount claim uid → IsVolumeRead mine claim place → AreReadBehind mine behind (λ recent. IsReadReady recent namespace name uid)
ready_from mine behind place a b namespace name uid claim same_namespace same_name read fit volume =
    let first = subst (λ x. IsRead mine (claim_key x b) behind place (Found (Claim claim))) same_namespace read in
    ready_by mine behind place namespace name uid claim (subst (λ x. IsRead mine (claim_key namespace x) behind place (Found (Claim claim))) same_name first) fit volume

-- the later ones of the tellings
pub told_dropped : (k : ℕ) (ts : List ToldPod) (mine : List Entry) → AreTold ts mine → AreTold (drop k ts) mine
told_dropped zero ts mine all = all
told_dropped (suc k) [] mine all = all
told_dropped (suc k) (t ∷ ts) mine all = told_dropped k ts mine all.1

-- claims in order

pub ready_step : (recent : List Entry) (namespace : List ℕ) (names : List (List ℕ)) (uids : List Uid) (i : ℕ) (n : List ℕ) (u : Uid)
    → i < length names → i < length uids → n ≡ get_or names i n → u ≡ get_or uids i u → IsReadReady recent namespace n u
    → AreReadReady recent namespace (drop (suc i) names) (drop (suc i) uids) → AreReadReady recent namespace (drop i names) (drop i uids)
ready_step recent namespace [] uids i n u lt below name uid ready rest = absurd (omega (arith, lt))
ready_step recent namespace (x ∷ xs) [] i n u lt below name uid ready rest = absurd (omega (arith, below))
ready_step recent namespace (x ∷ xs) (y ∷ ys) zero n u lt below name uid ready rest =
    (subst (λ v. IsReadReady recent namespace x v) uid (subst (λ m. IsReadReady recent namespace m u) name ready), rest)
ready_step recent namespace (x ∷ xs) (y ∷ ys) (suc i) n u lt below name uid ready rest = ready_step recent namespace xs ys i n u (omega (arith, lt)) (omega (arith, below)) name uid ready rest

pub ready_end : (recent : List Entry) (namespace : List ℕ) (names : List (List ℕ)) (uids : List Uid) (i : ℕ) → length names ≡ length uids
    → length names ≤ i → AreReadReady recent namespace (drop i names) (drop i uids)
ready_end recent namespace [] [] zero same end = tt
ready_end recent namespace [] [] (suc i) same end = tt
ready_end recent namespace [] (y ∷ ys) i same end = absurd (omega (arith, same))
ready_end recent namespace (x ∷ xs) [] i same end = absurd (omega (arith, same))
ready_end recent namespace (x ∷ xs) (y ∷ ys) zero same end = absurd (omega (arith, end))
ready_end recent namespace (x ∷ xs) (y ∷ ys) (suc i) same end = ready_end recent namespace xs ys i (omega (arith, same)) (omega (arith, end))

-- a telling among others
pub told_in : (mine : List Entry) (ts : List ToldPod) (i : ℕ) (t : ToldPod) → i < length ts → t ≡ get_or ts i t → AreTold ts mine → TellsAt mine t.place (Pod t.pod)
told_in mine [] i t lt is all = absurd (omega (arith, lt))
told_in mine (x ∷ ts) zero t lt is all = subst (λ (y : ToldPod). TellsAt mine y.place (Pod y.pod)) (sym is) all.0
told_in mine (x ∷ ts) (suc i) t lt is all = told_in mine ts i t (omega (arith, lt)) is all.1

pub told_at_all : (mine : List Entry) (place : ℕ) (pod : PodData) (P : PodData → Type 0) → P pod → TellsAt mine place (Pod pod) → ToldObject (IsPodWith P) mine
told_at_all [] place pod P p h = absurd h
told_at_all (e ∷ mine) place pod P p (inl h) = inl (told_ready P pod e p h.1)
told_at_all (e ∷ mine) place pod P p (inr h) = inr (told_at_all mine place pod P p h)

pub shown_by : (mine : List Entry) (taken : ℕ) (node : List ℕ) (epoch : ℕ) (uid : Uid) (claims : List Uid) (told : ToldPod)
    → IsTakenAt mine node epoch taken → TellsAt mine told.place (Pod told.pod) → IsShown mine taken node uid claims told → WasShownReady mine node uid claims [] (since_epoch node mine)
shown_by mine taken node epoch uid claims told at tells shown =
    let above = above_told mine told.place (Pod told.pod) tells in
    shown_since mine node uid claims told.pod [] mine above.0 taken shown.listed.place told.place at.entry shown.listed.list at.since above.1 tells
    shown.listed.stands shown.listed.after shown.listed.upto shown.listed.is
    (record {
      on_node = shown.on_node;
      latest = shown.staying.is.latest;
      newest = shown.staying.newest ∙ ap (λ (o : Object). Some o) shown.staying.is.is;
      same = shown.staying.is.same;
      staying = shown.staying.is.staying;
      ready = shown.read above.0 above.1;
    })

pub never_by : (mine : List Entry) (uid : Uid) (t : Topic) (answer : Option ℕ) → t ≡ about_pod matters.Finished uid → answer ≡ last_of t mine → answer ≡ None → never_finished uid mine ≡ true
never_by mine uid t answer about looked none =
    never_is uid mine (last_never (about_pod matters.Finished uid) (finishes uid) (finishes_heard uid) mine (subst (λ (u : Topic). last_of u mine ≡ None) about (sym looked ∙ none)))

pub mount_by : (mine : List Entry) (node : List ℕ) (epoch taken : ℕ) (uid : Uid) (claims : List Uid) → IsTakenAt mine node epoch taken
    → WasShownReady mine node uid claims [] (since_epoch node mine) → never_finished uid mine ≡ true → MayMount mine node epoch uid claims
mount_by mine node epoch taken uid claims at shown never = record { current = current_by mine node epoch taken at; shown = shown; unfinished = never }

-- finishing

pub quiet_by : (mine : List Entry) (uid : Uid) (place : ℕ) (t : Topic) (answer : Option ℕ) → t ≡ about_pod matters.Mounted uid
    → answer ≡ last_of t mine → IsUpto place answer → IsQuietBehind (mounts uid) place mine
quiet_by mine uid place t answer about looked upto =
    last_behind (about_pod matters.Mounted uid) (mounts uid) (mounts_heard uid) place mine (subst (λ (u : Topic). IsUpto place (last_of u mine)) about (subst (IsUpto place) looked upto))

pub unmounted_by : (entries : List Entry) (taken : ℕ) (node : List ℕ) (epoch : ℕ) (uid : Uid) (place : ℕ) (d : Entry) → place < length entries
    → taken < place → tells_unmounted node epoch uid (get_or entries place d) ≡ true → IsQuietBehind (mounts uid) place (reverse entries) → IsUnmounted (reverse entries) taken node epoch uid
unmounted_by entries taken node epoch uid place d within after told quiet = record {
  place = place;
  rows = get_or entries place d;
  stands = read_stands entries place d within;
  after = after;
  told = told;
  quiet = quiet;
}

pub finish_by : (mine : List Entry) (key : Key) (uid : Uid) (node : List ℕ) (epoch taken : ℕ) → key.kind ≡ kinds.Pod
    → WasTold (IsEndingPod uid node) mine → IsTakenAt mine node epoch taken → IsUnmounted mine taken node epoch uid → MayFinish mine key uid node epoch
finish_by mine key uid node epoch taken kind told at behind = record {
  current = current_by mine node epoch taken at;
  kind = kind;
  told = told;
  unmounted = unmounted_since node epoch uid mine taken behind.place at.entry behind.rows at.since behind.stands behind.after behind.quiet behind.told;
}

-- single reads

pub naming_by : (entries : List Entry) (key : Key) (place : ℕ) (d : Entry) → place < length entries → TellsNaming key (get_or entries place d) → SomeOf (TellsNaming key) (reverse entries)
naming_by entries key place d within told = stands_some (TellsNaming key) (reverse entries) place (get_or entries place d) (read_stands entries place d within) told

-- what an entry of a page tells alone
pub told_there : (page : List Entry) (i : ℕ) (d e : Entry) (o : Object) → i < length page → e ≡ get_or page i d → e.told ≡ true → e.reply ≡ Done o
    → (mine : List Entry) → IsPart (reverse page) mine → ToldObject (λ x. x ≡ o) mine
told_there page i d e o within at told is mine part = told_grows (λ x. x ≡ o) (reverse page) mine part
    (stands_some (TellsObject (λ x. x ≡ o)) (reverse page) i e (subst (StandsAt (reverse page) i) (sym at) (read_stands page i d within)) (told, done_tells e.reply o is))

pub named_by : (mine : List Entry) (key : Key) (o : Object) (pod : PodData) → o ≡ Pod pod → NamesClaim mine key pod → ToldObject (λ x. x ≡ o) mine → WasTold (NamesClaim mine key) mine
named_by mine key o pod is names told = told_map {P = λ x. x ≡ o} {Q = IsPodWith (NamesClaim mine key)} (λ x same. subst (IsPodWith (NamesClaim mine key)) (sym (same ∙ is)) names) mine told
