-- A user's ask, or one that is licensed, does what breaks nothing.
use Rattle.std.specs.Prelude.{ℕ, ◌+◌, ◌==◌, ◌≤◌, ◌≡◌, ◌⊎◌, Bool, true, false, List, [], ◌∷◌, Option, Some, None, Ok, Err, ⊤, is_some, if◌then◌else◌}
use Rattle.std.proofs.Common.{refl, sym, ◌∙◌, ap, subst, inl, inr, true≢false}
use Rattle.std.proofs.Common.{eqb-true}
use Rattle.std.proofs.lemmas.Bool.{eq-eqb}
use Rattle.std.proofs.lemmas.Cmp.{nat_list_cmp_total}
use Rattle.std.proofs.lemmas.Map.Lookups.{exact_bytes}
use Rattle.std.proofs.lemmas.Option.{same_Some, none-some}
use Rattle.kube_objects.specs.declared.objects.Object.{Object}
use Rattle.kube_objects.specs.declared.objects.DataId.{DataId}
use Rattle.kube_parts.specs.declared.parts.Policy.TheVariants as policies
use Rattle.snapshot_bind.specs.declared.rows.Snapshot.{Snapshot as SnapshotData}
use Rattle.snapshot_bind.specs.declared.rows.Content.{Content as ContentData}
use Rattle.snapshot_bind.specs.declared.rows.SnapRow.TheVariants as rows
use Rattle.snapshot_bind.specs.declared.calls.SnapAsk.{SnapAsk}
use Rattle.snapshot_bind.specs.declared.calls.SnapAsk.TheVariants as asks
use Rattle.snapshot_bind.specs.declared.calls.SnapEntry.{SnapEntry}
use Rattle.snapshot_bind.specs.declared.calls.SnapReply.{SnapReply}
use Rattle.snapshot_bind.specs.declared.calls.SnapReply.TheVariants.{Made, Refused}
use Rattle.snapshot_bind.specs.declared.calls.SnapRefusal.{SnapRefusal}
use Rattle.snapshot_bind.specs.declared.calls.SnapRefusal.TheVariants.{NotFound, Conflict}
use Rattle.snapshot_bind.specs.Licences.{
  SomeOf,
  snapshots_in,
  contents_in,
  ToldSnapshot,
  ToldContent,
  ToldGone,
  IsOwner,
  IsFree,
  IsBoundTo,
  IsBindable,
  IsErasable,
  IsSpent,
  HasSome,
  LacksOwner,
  SnapLicensed,
}
use Rattle.snapshot_bind.specs.Rules.{EachOf, is_users}
use Rattle.snapshot_bind.specs.declared.effect.Effect.{Effect}
use Rattle.snapshot_bind.specs.declared.effect.Effect.TheVariants.{Answers, PutsSnapshot}
use Rattle.snapshot_bind.specs.SideStore.{
  Side,
  SnapKey,
  snap_cmp,
  snapshot_key,
  content_key,
  owner_key,
  snapshot_at,
  content_at,
  new_content,
  refuse,
  unsnap,
  release,
  uncontent,
  get,
  cut,
  cut_from,
  cut_name,
  snapshot_of_version,
  content_of_version,
  write,
  worker_effect,
  effect_of,
}
use Rattle.snapshot_bind.proofs.Orders.{snap_cmp_total}
use Rattle.snapshot_law.proofs.Finds.{equal_keys, each_found, any_at}
use Rattle.snapshot_law.proofs.Known.{StandsAt, HoldsAt, IsGone, KnowsSnapshot, KnowsContent, IsGood}
use Rattle.snapshot_law.proofs.Steps.{FairSnapshot, FairContent, FairLeave, IsFair, keyed_at, named_at}

-- each row that an answer told is known
abbrev pub KnowsTold : Side → SnapReply → Type 0
KnowsTold σ reply = EachOf (KnowsSnapshot σ) (snapshots_in reply) × EachOf (KnowsContent σ) (contents_in reply)

-- and so is each that these calls told
abbrev pub KnowsAll : Side → List SnapEntry → Type 0
KnowsAll σ mine = EachOf (λ (e : SnapEntry). KnowsTold σ e.reply) mine

-- if this call was told that the content's snapshot is lacking, no snapshot has its UID from then on
abbrev pub GoneBy : Side → SnapEntry → ContentData → Type 0
GoneBy σ e c = (uid : ℕ) → c.uid ≡ Some uid → LacksOwner c e.ask e.reply → IsGone σ uid

abbrev pub KnowsGone : Side → List SnapEntry → Type 0
KnowsGone σ [] = ⊤
KnowsGone σ (e ∷ mine) = EachOf (λ (old : SnapEntry). EachOf (GoneBy σ e) (contents_in old.reply)) mine × KnowsGone σ mine

pub record Both {X : Type 0} (P Q : X → Type 0) : Type 0 where
  pub row : X
  pub first : P row
  pub second : Q row

pub both_in : {X : Type 0} (P Q : X → Type 0) (xs : List X) → SomeOf P xs → EachOf Q xs → Both P Q
both_in P Q [] some each = absurd some
both_in P Q (x ∷ xs) (inl here) each = record { row = x; first = here; second = each.0 }
both_in P Q (x ∷ xs) (inr later) each = both_in P Q xs later each.1

pub each_with : {X : Type 0} (P Q : X → Type 0) (xs : List X) → EachOf P xs → EachOf Q xs → EachOf (λ x. P x × Q x) xs
each_with P Q [] ps qs = tt
each_with P Q (x ∷ xs) ps qs = ((ps.0, qs.0), each_with P Q xs ps.1 qs.1)

pub each_map : {X : Type 0} (P Q : X → Type 0) (xs : List X) → ((x : X) → P x → Q x) → EachOf P xs → EachOf Q xs
each_map P Q [] f ps = tt
each_map P Q (x ∷ xs) f ps = (f x ps.0, each_map P Q xs f ps.1)

told_snapshot : (σ : Side) (P : SnapshotData → Type 0) (mine : List SnapEntry) → ToldSnapshot P mine → KnowsAll σ mine → Both P (KnowsSnapshot σ)
told_snapshot σ P mine told all =
    let b = both_in (λ (e : SnapEntry). SomeOf P (snapshots_in e.reply)) (λ (e : SnapEntry). KnowsTold σ e.reply) mine told all in
    both_in P (KnowsSnapshot σ) (snapshots_in b.row.reply) b.first b.second.0

told_content : (σ : Side) (P : ContentData → Type 0) (mine : List SnapEntry) → ToldContent P mine → KnowsAll σ mine → Both P (KnowsContent σ)
told_content σ P mine told all =
    let b = both_in (λ (e : SnapEntry). SomeOf P (contents_in e.reply)) (λ (e : SnapEntry). KnowsTold σ e.reply) mine told all in
    both_in P (KnowsContent σ) (contents_in b.row.reply) b.first b.second.1

pub record Is {X : Type 0} (o : Option X) : Type 0 where
  pub value : X
  pub is : o ≡ Some value

some_is : (o : Option ℕ) → HasSome o → Is o
some_is None h = absurd h
some_is (Some uid) h = record { value = uid; is = refl }

-- a content at this version that is to be erased: its policy is Delete, and no snapshot has its UID
pub record IsErased (σ : Side) (name : List ℕ) (version : ℕ) : Type 0 where
  pub content : ContentData
  pub known : KnowsContent σ content
  pub named : content.name ≡ name
  pub at : content.version ≡ version
  pub policy : content.policy ≡ policies.Delete
  pub uid : ℕ
  pub own : content.uid ≡ Some uid
  pub gone : IsGone σ uid

pub told_gone : (σ : Side) (name : List ℕ) (version : ℕ) (mine : List SnapEntry) → ToldGone name version mine → KnowsAll σ mine → KnowsGone σ mine → IsErased σ name version
told_gone σ name version [] told all gone = absurd told
told_gone σ name version (e ∷ mine) (inr later) all gone = told_gone σ name version mine later all.1 gone.1
told_gone σ name version (e ∷ mine) (inl here) all gone =
    let outer = both_in (λ (x : SnapEntry). SomeOf (IsErasable name version e) (contents_in x.reply)) (λ (x : SnapEntry). KnowsTold σ x.reply × EachOf (GoneBy σ e) (contents_in x.reply)) mine here
    (each_with _ _ mine all.1 gone.0) in
    let inner = both_in (IsErasable name version e) (λ (c : ContentData). KnowsContent σ c × GoneBy σ e c) (contents_in outer.row.reply) outer.first
    (each_with _ _ (contents_in outer.row.reply) outer.second.0.1 outer.second.1) in
    let uid = some_is inner.row.uid inner.first.bound in
    record {
      content = inner.row;
      known = inner.second.0;
      named = inner.first.content.named;
      at = inner.first.content.at;
      policy = inner.first.policy;
      uid = uid.value;
      own = uid.is;
      gone = inner.second.1 uid.value uid.is inner.first.lacks;
    }

tells_nothing : (σ : Side) (why : SnapRefusal) → IsFair σ (Answers (Refused why))
tells_nothing σ why = record { snapshots = tt; contents = tt }

fair_refuse : (σ : Side) (b : Bool) (why : SnapRefusal) (next : Effect) → (b ≡ false → IsFair σ next) → IsFair σ (refuse b why next)
unfolding refuse
fair_refuse σ true why next h = tells_nothing σ why
fair_refuse σ false why next h = h refl

fair_if : (σ : Side) (b : Bool) (next other : Effect) → (b ≡ true → IsFair σ next) → IsFair σ other → IsFair σ (if b then next else other)
fair_if σ true next other h o = h refl
fair_if σ false next other h o = o

fair_snapshot_write : (σ : Side) (version : ℕ) (o : Option SnapshotData) (change : SnapshotData → Effect) → ((s : SnapshotData) → o ≡ Some s → s.version ≡ version → IsFair σ (change s))
    → IsFair σ (write (snapshot_of_version version o) change)
unfolding write snapshot_of_version
fair_snapshot_write σ version None change h = tells_nothing σ NotFound
fair_snapshot_write σ version (Some s) change h = by (s.version == version) (λ e. h s refl (eqb-true s.version version e))
  where
    by : (b : Bool) → (b ≡ true → IsFair σ (change s)) → IsFair σ (write (if b then Ok s else Err (Conflict s.version)) change)
    by true h = h refl
    by false h = tells_nothing σ (Conflict s.version)

fair_content_write : (σ : Side) (version : ℕ) (o : Option ContentData) (change : ContentData → Effect) → ((c : ContentData) → o ≡ Some c → c.version ≡ version → IsFair σ (change c))
    → IsFair σ (write (content_of_version version o) change)
unfolding write content_of_version
fair_content_write σ version None change h = tells_nothing σ NotFound
fair_content_write σ version (Some c) change h = by (c.version == version) (λ e. h c refl (eqb-true c.version version e))
  where
    by : (b : Bool) → (b ≡ true → IsFair σ (change c)) → IsFair σ (write (if b then Ok c else Err (Conflict c.version)) change)
    by true h = h refl
    by false h = tells_nothing σ (Conflict c.version)

no_some : {X : Type 0} (o : Option X) (x : X) → is_some o ≡ false → o ≡ Some x → ⊥
no_some None x e h = none-some x h
no_some (Some y) x e h = true≢false e

module _ (σ : Side) (g : IsGood σ) where
  fair_new_content : (name namespace snapshot : List ℕ) (policy : _) (source : DataId) → is_some (content_at name σ.contents) ≡ false
      → FairContent σ (new_content (σ.number + 1) name namespace snapshot policy source)
  fair_new_content name namespace snapshot policy source none = record {
    version = refl;
    was = λ d h uid e. absurd (no_some _ d none h);
    free = λ e. refl;
    given = λ uid e. absurd (none-some uid e);
    owner = λ uid e k t h own. absurd (none-some uid e);
  }

  fair_unsnap : (k : SnapKey) (o : Option SnapshotData) → snapshot_at k σ.snapshots ≡ o → IsFair σ (unsnap (σ.number + 1) o)
  unfolding unsnap
  fair_unsnap k None e = record { snapshots = tt; contents = tt }
  fair_unsnap k (Some s) e = by s.deleting
    where
      here : StandsAt σ (snapshot_key s) s
      here = ap (λ j. snapshot_at j σ.snapshots) (keyed_at σ k s e) ∙ e

      by : (b : Bool) → IsFair σ (if b then Answers (Made (rows.Snapshot s)) else PutsSnapshot (record s { version = σ.number + 1; deleting = true }))
      by true = record { snapshots = (here, tt); contents = tt }
      by false = record { version = refl; uid = inr (record { old = s; stood = here; own = refl }); bound = λ ne. g.bound k s e ne }

  fair_leave : (c : ContentData) → HoldsAt σ (content_key c) c → (o : Option ℕ) → c.uid ≡ o → IsFair σ (release σ.snapshots c o)
  unfolding release
  fair_leave c h None e = record { stands = h; none = λ uid is k t at own. none-some uid (sym e ∙ is) }
  fair_leave c h (Some uid) e = fair_refuse σ _ _ _ (λ none. record {
    stands = h;
    none = λ u is k t at own.
        let low = any_at snap_cmp snapshot_key (λ (s : SnapshotData). s.uid == uid) k σ.snapshots t none at in
        true≢false (sym (eq-eqb t.uid uid (own ∙ same_Some u uid (sym is ∙ e))) ∙ low);
  })

  fair_uncontent : (name : List ℕ) (o : Option ContentData) → content_at name σ.contents ≡ o → IsFair σ (uncontent σ.snapshots o)
  unfolding uncontent
  fair_uncontent name None e = record { snapshots = tt; contents = tt }
  fair_uncontent name (Some c) e = fair_leave c (ap (λ j. content_at j σ.contents) (named_at σ name c e) ∙ e) c.uid refl

  fair_got : (k : SnapKey) (o : Option SnapshotData) → snapshot_at k σ.snapshots ≡ o → IsFair σ (get o)
  unfolding get
  fair_got k None e = record { snapshots = tt; contents = tt }
  fair_got k (Some s) e = record { snapshots = (ap (λ j. snapshot_at j σ.snapshots) (keyed_at σ k s e) ∙ e, tt); contents = tt }

  fair_cut_from : (s : SnapshotData) (k : SnapKey) → StandsAt σ k s → is_some (content_at (cut_name s.uid) σ.contents) ≡ false → (source : Option DataId) → IsFair σ (cut_from (σ.number + 1) s source)
  unfolding cut_from
  fair_cut_from s k h none None = record { snapshots = tt; contents = tt }
  fair_cut_from s k h none (Some source) = record {
    version = refl;
    was = λ d at uid e. absurd (no_some _ d none at);
    free = λ e. absurd (none-some s.uid (sym e));
    given = λ uid e. subst (λ n. n ≤ σ.number) (same_Some s.uid uid e) (g.snapshots k s h).uid;
    owner = λ uid e j t at own. ((g.snapshots k s h).keyed j t at (own ∙ sym (same_Some s.uid uid e)), refl);
  }

  fair_cut : (world : List Object) (uid : ℕ) (k : SnapKey) (o : Option SnapshotData) → snapshot_at k σ.snapshots ≡ o → IsFair σ (cut σ uid world o)
  unfolding cut
  fair_cut world uid k None e = record { snapshots = tt; contents = tt }
  fair_cut world uid k (Some s) e = fair_if σ (s.uid == uid) _ _ (λ is. fair_refuse σ _ _ _ (λ none. fair_cut_from s k e none _)) (record { snapshots = tt; contents = tt })

  -- a row that stands at a version at which it was told is the row that was told
  told_holds : (name : List ℕ) (version : ℕ) (c d : ContentData) → KnowsContent σ c → c.name ≡ name → c.version ≡ version → HoldsAt σ name d → d.version ≡ version → d ≡ c
  told_holds name version c d known named at h e = known.same d (ap (λ j. content_at j σ.contents) named ∙ h) (e ∙ sym at)

  told_stands : (k : SnapKey) (version : ℕ) (s t : SnapshotData) → KnowsSnapshot σ s → snapshot_key s ≡ k → s.version ≡ version → StandsAt σ k t → t.version ≡ version → t ≡ s
  told_stands k version s t known keyed at h e = known.same t (ap (λ j. snapshot_at j σ.snapshots) keyed ∙ h) (e ∙ sym at)

  fair_bind_content : (name : List ℕ) (version uid : ℕ) (mine : List SnapEntry) → KnowsAll σ mine → ToldContent (IsFree name version uid mine) mine → (c : ContentData) → HoldsAt σ name c
      → c.version ≡ version → FairContent σ (record c { version = σ.number + 1; uid = Some uid })
  fair_bind_content name version uid mine all told c h e =
      let content = told_content σ (IsFree name version uid mine) mine told all in
      let owner = told_snapshot σ (IsOwner uid content.row) mine content.first.owner all in
      let one = told_holds name version content.row c content.second content.first.content.named content.first.content.at h e in
      let free : c.uid ≡ None = ap (λ (x : ContentData). x.uid) one ∙ content.first.free in
      let there : c.there ≡ true = ap (λ (x : ContentData). x.there) one ∙ content.second.free content.first.free in
      let placed : owner.row.namespace ≡ c.namespace = owner.first.placed ∙ ap (λ (x : ContentData). x.namespace) (sym one) in
      let named : owner.row.name ≡ c.snapshot = owner.first.named ∙ ap (λ (x : ContentData). x.snapshot) (sym one) in
      let key : snapshot_key owner.row ≡ owner_key c = λ i. (placed i, named i) in
      let name_is = named_at σ name c h in
      record {
        version = refl;
        was = λ d at u is. absurd (none-some u (sym free ∙ ap (λ (x : ContentData). x.uid) (same_Some c d (sym h ∙ ap (λ j. content_at j σ.contents) (sym name_is) ∙ at)) ∙ is));
        free = λ is. absurd (none-some uid (sym is));
        given = λ u is. subst (λ n. n ≤ σ.number) (owner.first.own ∙ same_Some uid u is) owner.second.uid;
        owner = λ u is k t at own. (owner.second.keyed k t at (own ∙ sym (same_Some uid u is) ∙ sym owner.first.own) ∙ key, there);
      }

  fair_bind_snapshot : (namespace name : List ℕ) (version : ℕ) (content : List ℕ) (mine : List SnapEntry) → KnowsAll σ mine
      → ToldSnapshot (IsBindable namespace name version content mine) mine → (s : SnapshotData) → StandsAt σ (namespace, name) s → s.version ≡ version
      → FairSnapshot σ (record s { version = σ.number + 1; content = content })
  fair_bind_snapshot namespace name version content mine all told s h e =
      let snapshot = told_snapshot σ (IsBindable namespace name version content mine) mine told all in
      let placed : snapshot.row.namespace ≡ namespace = snapshot.first.snapshot.placed in
      let named : snapshot.row.name ≡ name = snapshot.first.snapshot.named in
      let key : snapshot_key snapshot.row ≡ (namespace, name) = λ i. (placed i, named i) in
      let one = told_stands (namespace, name) version snapshot.row s snapshot.second key snapshot.first.snapshot.at h e in
      let bound = told_content σ (IsBoundTo content snapshot.row.uid) mine snapshot.first.bound all in
      let own : s.uid ≡ snapshot.row.uid = ap (λ (x : SnapshotData). x.uid) one in
      let kept = bound.second.kept snapshot.row.uid bound.first.own (namespace, name) s h own in
      record {
        version = refl;
        uid = inr (record { old = s; stood = ap (λ j. snapshot_at j σ.snapshots) (keyed_at σ (namespace, name) s h) ∙ h; own = refl });
        bound = λ ne. record {
          content = kept.held.content;
          stands = ap (λ j. content_at j σ.contents) (sym bound.first.named) ∙ kept.held.stands;
          own = kept.held.own ∙ ap (λ n. Some n) (sym own);
        };
      }

  fair_erase : (name : List ℕ) (version : ℕ) → IsErased σ name version → (c : ContentData) → HoldsAt σ name c → c.version ≡ version → FairContent σ (record c { version = σ.number + 1; there = false })
  fair_erase name version erased c h e =
      let one = told_holds name version erased.content c erased.known erased.named erased.at h e in
      let own : c.uid ≡ Some erased.uid = ap (λ (x : ContentData). x.uid) one ∙ erased.own in
      let name_is = named_at σ name c h in
      record {
        version = refl;
        was = λ d at u is. ap (λ (x : ContentData). x.uid) (same_Some c d (sym h ∙ ap (λ j. content_at j σ.contents) (sym name_is) ∙ at)) ∙ is;
        free = λ is. absurd (none-some erased.uid (sym is ∙ own));
        given = λ u is. subst (λ n. n ≤ σ.number) (same_Some erased.uid u (sym own ∙ is)) erased.gone.given;
        owner = λ u is k t at held. absurd (erased.gone.none k t at (held ∙ sym (same_Some erased.uid u (sym own ∙ is))));
      }

  fair_drop_content : (name : List ℕ) (version : ℕ) (mine : List SnapEntry) → KnowsAll σ mine → ToldContent (IsSpent name version) mine → (c : ContentData) → HoldsAt σ name c
      → c.version ≡ version → FairLeave σ c
  fair_drop_content name version mine all told c h e =
      let content = told_content σ (IsSpent name version) mine told all in
      let one = told_holds name version content.row c content.second content.first.content.named content.first.content.at h e in
      record {
        stands = ap (λ j. content_at j σ.contents) (named_at σ name c h) ∙ h;
        none = λ u is k t at own.
            let kept = content.second.kept u (ap (λ (x : ContentData). x.uid) (sym one) ∙ is) k t at own in
            true≢false (sym kept.there ∙ content.first.gone);
      }

  pub fair_of : (world : List Object) (mine : List SnapEntry) → KnowsAll σ mine → KnowsGone σ mine → (ask : SnapAsk) → (is_users ask ≡ true) ⊎ SnapLicensed mine ask → IsFair σ (effect_of world σ ask)
  unfolding effect_of worker_effect SnapLicensed
  fair_of world mine all gone (asks.Snapshot namespace name claim policy) may = fair_refuse σ _ _ _ (λ none. record { version = refl; uid = inl refl; bound = λ ne. absurd (ne refl) })
  fair_of world mine all gone (asks.Content name namespace snapshot policy source) may = fair_refuse σ _ _ _ (λ none. fair_new_content name namespace snapshot policy source none)
  fair_of world mine all gone (asks.Unsnap namespace name) may = fair_unsnap (namespace, name) _ refl
  fair_of world mine all gone (asks.Uncontent name) may = fair_uncontent name _ refl
  fair_of world mine all gone asks.SnapList may = record {
    snapshots = each_found snap_cmp_total equal_keys snapshot_key σ.snapshots g.snapshots_rise _ (λ s h. h);
    contents = each_found nat_list_cmp_total exact_bytes content_key σ.contents g.contents_rise _ (λ c h. h);
  }
  fair_of world mine all gone (asks.SnapGet namespace name) may = fair_got (namespace, name) _ refl
  fair_of world mine all gone (asks.Cut namespace name uid) may = fair_cut world uid (namespace, name) _ refl
  fair_of world mine all gone (asks.BindContent name version uid) (inl users) = absurd (true≢false (sym users))
  fair_of world mine all gone (asks.BindContent name version uid) (inr told) = fair_content_write σ version _ _ (λ c h e. fair_bind_content name version uid mine all told c h e)
  fair_of world mine all gone (asks.BindSnapshot namespace name version content) (inl users) = absurd (true≢false (sym users))
  fair_of world mine all gone (asks.BindSnapshot namespace name version content) (inr told) =
      fair_snapshot_write σ version _ _ (λ s h e. fair_bind_snapshot namespace name version content mine all told s h e)
  fair_of world mine all gone (asks.DropSnapshot namespace name version) may = fair_snapshot_write σ version _ _ (λ s h e. tt)
  fair_of world mine all gone (asks.EraseSnap name version) (inl users) = absurd (true≢false (sym users))
  fair_of world mine all gone (asks.EraseSnap name version) (inr told) = fair_content_write σ version _ _ (λ c h e. fair_erase name version (told_gone σ name version mine told all gone) c h e)
  fair_of world mine all gone (asks.DropContent name version) (inl users) = absurd (true≢false (sym users))
  fair_of world mine all gone (asks.DropContent name version) (inr told) = fair_content_write σ version _ _ (λ c h e. fair_drop_content name version mine all told c h e)
