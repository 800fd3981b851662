-- The rules hold after each call: what each seat was told is known at each point, and what is known licenses no wrong write.
use Rattle.std.specs.Prelude.{ℕ, ◌==◌, ◌≡◌, ◌≢◌, ◌⊎◌, Bool, true, false, List, [], ◌∷◌, Option, Some, None, Ok, Err, if◌then◌else◌}
use Rattle.std.proofs.Common.{refl, sym, ◌∙◌, ap, subst, inl, inr, true≢false}
use Rattle.std.proofs.lemmas.Cmp.{nat_list_cmp_total}
use Rattle.std.proofs.lemmas.Option.{same_Some, none-some}
use Rattle.kube_objects.specs.declared.objects.Object.{Object}
use Rattle.snapshot_bind.specs.declared.rows.Snapshot.{Snapshot as SnapshotData}
use Rattle.snapshot_bind.specs.declared.rows.Content.{Content as ContentData}
use Rattle.snapshot_bind.specs.declared.calls.SnapAsk.{SnapAsk}
use Rattle.snapshot_bind.specs.declared.calls.SnapAsk.TheVariants as asks
use Rattle.snapshot_bind.specs.declared.calls.SnapEntry.{SnapEntry}
use Rattle.snapshot_bind.specs.declared.calls.SnapReply.{SnapReply}
use Rattle.snapshot_bind.specs.declared.calls.SnapReply.TheVariants.{Listed, Found, Made, Left, Refused}
use Rattle.snapshot_bind.specs.declared.calls.SnapRefusal.TheVariants.{Conflict}
use Rattle.plain_data.specs.Pairs.{text_cmp}
use Rattle.plain_data.proofs.RowLookups.{find-put}
use Rattle.std.proofs.Common.{eqb-true}
use Rattle.snapshot_bind.specs.Licences.{snapshots_in, contents_in, IsOther, LacksOwner, SnapLicensed}
use Rattle.snapshot_bind.specs.Rules.{EachOf, SideCall, own, side_after, is_users, IsSideRun, IsContentFor, IsBound, IsGoneUid, MayErase, ErasesRightly, AreRowsRight, RulesHold}
use Rattle.snapshot_bind.specs.declared.effect.Effect.{Effect}
use Rattle.snapshot_bind.specs.declared.effect.Effect.TheVariants.{Answers, PutsSnapshot, PutsContent, TakesSnapshot, TakesContent}
use Rattle.snapshot_bind.specs.SideStore.{Side, empty_side, snapshot_key, content_key, owner_key, snapshot_at, content_at, get, content_of_version, write, worker_effect, effect_of, reply_of, after}
use Rattle.snapshot_bind.proofs.Orders.{snap_cmp_total}
use Rattle.snapshot_law.proofs.Finds.{equal_keys, each_found, found_some, apart_by}
use Rattle.snapshot_law.proofs.Known.{StandsAt, IsGone, KnowsSnapshot, KnowsContent, IsGood, IsStep, gone_stays, snapshot_stays, content_stays}
use Rattle.snapshot_law.proofs.Steps.{TellsOwn, IsFair, step_of, good_after, named_at}
use Rattle.snapshot_law.proofs.Fair.{KnowsTold, KnowsAll, GoneBy, KnowsGone, IsErased, each_map, told_gone, fair_of}

-- an answer about rows that stand tells what is known
told_by : (σ : Side) → IsGood σ → (reply : SnapReply) → TellsOwn σ (snapshots_in reply) (contents_in reply)
    → EachOf (KnowsSnapshot σ) (snapshots_in reply) × EachOf (KnowsContent σ) (contents_in reply)
told_by σ g reply tells =
    (each_map _ _ (snapshots_in reply) (λ s h. g.snapshots (snapshot_key s) s h) tells.snapshots, each_map _ _ (contents_in reply) (λ c h. g.contents (content_key c) c h) tells.contents)

told_known : (σ : Side) (o : Effect) → IsFair σ o → IsGood (after σ o) → EachOf (KnowsSnapshot (after σ o)) (snapshots_in (reply_of o)) × EachOf (KnowsContent (after σ o)) (contents_in (reply_of o))
told_known σ (Answers reply) fair g = told_by σ g reply fair
told_known σ (PutsSnapshot s) fair g = ((g.snapshots (snapshot_key s) s (find-put snap_cmp_total snapshot_key s σ.snapshots), tt), tt)
told_known σ (PutsContent c) fair g = (tt, (g.contents (content_key c) c (find-put nat_list_cmp_total content_key c σ.contents), tt))
told_known σ (TakesSnapshot s) fair g = (tt, tt)
told_known σ (TakesContent c) fair g = (tt, tt)

all_stay : (σ τ : Side) → IsStep σ τ → (mine : List SnapEntry) → KnowsAll σ mine → KnowsAll τ mine
all_stay σ τ step mine all = each_map _ _ mine (λ (e : SnapEntry) told. told_stays e.reply told) all
  where
    told_stays : (reply : SnapReply) → KnowsTold σ reply → KnowsTold τ reply
    told_stays reply told = (each_map _ _ (snapshots_in reply) (λ s k. snapshot_stays σ τ step s k) told.0, each_map _ _ (contents_in reply) (λ c k. content_stays σ τ step c k) told.1)

gone_stay : (σ τ : Side) → IsStep σ τ → (mine : List SnapEntry) → KnowsGone σ mine → KnowsGone τ mine
gone_stay σ τ step [] gone = tt
gone_stay σ τ step (e ∷ mine) gone =
    (each_map _ _ mine (λ (old : SnapEntry) h. each_map _ _ (contents_in old.reply) (λ c k uid own lacks. gone_stays σ τ step uid (k uid own lacks)) h) gone.0, gone_stay σ τ step mine gone.1)

-- a content's snapshot that a get does not find is gone
gone_by_got : (σ : Side) (c : ContentData) → KnowsContent σ c → (uid : ℕ) → c.uid ≡ Some uid → (namespace name : List ℕ) (o : Option SnapshotData)
    → snapshot_at (namespace, name) σ.snapshots ≡ o → LacksOwner c (asks.SnapGet namespace name) (reply_of (get o)) → IsGone σ uid
unfolding get
gone_by_got σ c known uid own namespace name None e lacks =
    let placed : c.namespace ≡ namespace = lacks.0 in
    let named : c.snapshot ≡ name = lacks.1 in
    let key : owner_key c ≡ (namespace, name) = λ i. (placed i, named i) in
    record {
      given = known.given uid own;
      none = λ k t h is.
          let kept = known.kept uid own k t h is in
          none-some t (sym e ∙ ap (λ j. snapshot_at j σ.snapshots) (sym (kept.owner ∙ key)) ∙ h);
    }
gone_by_got σ c known uid own namespace name (Some s) e lacks =
    let placed : c.namespace ≡ namespace = lacks.0 in
    let named : c.snapshot ≡ name = lacks.1 in
    let key : owner_key c ≡ (namespace, name) = λ i. (placed i, named i) in
    let other : IsOther (Some uid) s.uid = subst (λ o. IsOther o s.uid) own lacks.2 in
    record {
      given = known.given uid own;
      none = λ k t h is.
          let kept = known.kept uid own k t h is in
          other (ap (λ (x : SnapshotData). x.uid) (same_Some s t (sym e ∙ ap (λ j. snapshot_at j σ.snapshots) (sym (kept.owner ∙ key)) ∙ h)) ∙ is);
    }

gone_now : (world : List Object) (σ : Side) (c : ContentData) → KnowsContent σ c → (uid : ℕ) → c.uid ≡ Some uid → (ask : SnapAsk) → LacksOwner c ask (reply_of (effect_of world σ ask)) → IsGone σ uid
unfolding effect_of worker_effect
gone_now world σ c known uid own (asks.SnapGet namespace name) lacks = gone_by_got σ c known uid own namespace name (snapshot_at (namespace, name) σ.snapshots) refl lacks
gone_now world σ c known uid own (asks.Snapshot namespace name claim policy) lacks = absurd lacks
gone_now world σ c known uid own (asks.Content name namespace snapshot policy source) lacks = absurd lacks
gone_now world σ c known uid own (asks.Unsnap namespace name) lacks = absurd lacks
gone_now world σ c known uid own (asks.Uncontent name) lacks = absurd lacks
gone_now world σ c known uid own asks.SnapList lacks = absurd lacks
gone_now world σ c known uid own (asks.Cut namespace name u) lacks = absurd lacks
gone_now world σ c known uid own (asks.BindContent name version u) lacks = absurd lacks
gone_now world σ c known uid own (asks.BindSnapshot namespace name version content) lacks = absurd lacks
gone_now world σ c known uid own (asks.DropSnapshot namespace name version) lacks = absurd lacks
gone_now world σ c known uid own (asks.EraseSnap name version) lacks = absurd lacks
gone_now world σ c known uid own (asks.DropContent name version) lacks = absurd lacks

-- all that holds of the side after these calls, and of what each seat was told by them
pub record IsKnown (past : List SideCall) : Type 0 where
  pub good : IsGood (side_after past)
  pub all : (seat : ℕ) → KnowsAll (side_after past) (own seat past)
  pub gone : (seat : ℕ) → KnowsGone (side_after past) (own seat past)

good_first : IsGood empty_side
good_first = record {
  snapshots_rise = tt;
  contents_rise = tt;
  snapshots = λ k s h. absurd (none-some s h);
  contents = λ n c h. absurd (none-some c h);
  bound = λ k s h. absurd (none-some s h);
}

known_next : (c : SideCall) (past : List SideCall) → IsKnown past → IsSideRun (c ∷ past) → IsKnown (c ∷ past)
known_next c past known run = record {
  good = good;
  all = λ seat. all_by seat (c.seat == seat);
  gone = λ seat. gone_by seat (c.seat == seat);
}
  where
    fair : IsFair (side_after past) (effect_of c.world (side_after past) c.entry.ask)
    fair = fair_of (side_after past) known.good c.world (own c.seat past) (known.all c.seat) (known.gone c.seat) c.entry.ask run.2

    step : IsStep (side_after past) (side_after (c ∷ past))
    step = step_of (side_after past) known.good (effect_of c.world (side_after past) c.entry.ask) fair

    good : IsGood (side_after (c ∷ past))
    good = good_after (side_after past) known.good (effect_of c.world (side_after past) c.entry.ask) fair

    told : KnowsTold (side_after (c ∷ past)) c.entry.reply
    told = subst (λ reply. KnowsTold (side_after (c ∷ past)) reply) (sym run.1) (told_known (side_after past) (effect_of c.world (side_after past) c.entry.ask) fair good)

    all_by : (seat : ℕ) (b : Bool) → KnowsAll (side_after (c ∷ past)) (if b then c.entry ∷ own seat past else own seat past)
    all_by seat true = (told, all_stay (side_after past) (side_after (c ∷ past)) step (own seat past) (known.all seat))
    all_by seat false = all_stay (side_after past) (side_after (c ∷ past)) step (own seat past) (known.all seat)

    by_content : (x : ContentData) → KnowsContent (side_after past) x → GoneBy (side_after (c ∷ past)) c.entry x
    by_content x k uid own lacks =
        gone_stays (side_after past) (side_after (c ∷ past)) step uid (gone_now c.world (side_after past) x k uid own c.entry.ask (subst (λ reply. LacksOwner x c.entry.ask reply) run.1 lacks))

    gone_by : (seat : ℕ) (b : Bool) → KnowsGone (side_after (c ∷ past)) (if b then c.entry ∷ own seat past else own seat past)
    gone_by seat true = (
      each_map _ _ (own seat past) (λ (e : SnapEntry) h. each_map _ _ (contents_in e.reply) by_content h.1) (known.all seat),
      gone_stay (side_after past) (side_after (c ∷ past)) step (own seat past) (known.gone seat),
    )
    gone_by seat false = gone_stay (side_after past) (side_after (c ∷ past)) step (own seat past) (known.gone seat)

pub known_of : (past : List SideCall) → IsSideRun past → IsKnown past
known_of [] run = record { good = good_first; all = λ seat. tt; gone = λ seat. tt }
known_of (c ∷ past) run = known_next c past (known_of past run.0) run

-- what a snapshot names stands with its UID, and no two name one content
rows_right : (past : List SideCall) → IsGood (side_after past) → AreRowsRight past
rows_right past g = record {
  bound = each_found snap_cmp_total equal_keys snapshot_key (side_after past).snapshots g.snapshots_rise _ bound_at;
  apart = apart_by snap_cmp_total equal_keys snapshot_key (side_after past).snapshots g.snapshots_rise (λ (s t : SnapshotData). s.content ≢ [] → t.content ≢ s.content) apart_at;
}
  where
    bound_at : (s : SnapshotData) → StandsAt (side_after past) (snapshot_key s) s → IsBound (side_after past).contents s
    bound_at s h ne =
        let held = g.bound (snapshot_key s) s h ne in
        let kept = (g.contents s.content held.content held.stands).kept s.uid held.own (snapshot_key s) s h refl in
        found_some text_cmp content_key (IsContentFor s) s.content (side_after past).contents held.content held.stands
        (record { named = named_at (side_after past) s.content held.content held.stands; own = held.own; stands = kept.there })

    apart_at : (s t : SnapshotData) → StandsAt (side_after past) (snapshot_key s) s → StandsAt (side_after past) (snapshot_key t) t → (snapshot_key s ≡ snapshot_key t → ⊥) → s.content ≢ []
        → t.content ≢ s.content
    apart_at s t hs ht differ ne e =
        let first = g.bound (snapshot_key s) s hs ne in
        let second = g.bound (snapshot_key t) t ht (λ none. ne (sym e ∙ none)) in
        let one = same_Some first.content second.content (sym first.stands ∙ ap (λ j. content_at j (side_after past).contents) (sym e) ∙ second.stands) in
        let uid = same_Some s.uid t.uid (sym first.own ∙ ap (λ (x : ContentData). x.uid) one ∙ second.own) in
        differ ((g.snapshots (snapshot_key t) t ht).keyed (snapshot_key s) s hs uid)

-- what an EraseSnap writes over may be erased
erases_at : (σ : Side) → IsGood σ → (name : List ℕ) (version : ℕ) → IsErased σ name version → (change : ContentData → Effect) (o : Option ContentData) → content_at name σ.contents ≡ o
    → ErasesRightly σ (asks.EraseSnap name version) (reply_of (write (content_of_version version o) change))
unfolding write content_of_version
erases_at σ g name version erased change None e = tt
erases_at σ g name version erased change (Some c) e = by (c.version == version) refl
  where
    may : c.version ≡ version → MayErase σ (content_at name σ.contents)
    may at =
        let one = erased.known.same c (ap (λ j. content_at j σ.contents) erased.named ∙ e) (at ∙ sym erased.at) in
        subst (λ o. MayErase σ o) (sym e) (
          ap (λ (x : ContentData). x.policy) one ∙ erased.policy,
          subst (λ o. IsGoneUid σ.snapshots o) (sym (ap (λ (x : ContentData). x.uid) one ∙ erased.own))
              (each_found snap_cmp_total equal_keys snapshot_key σ.snapshots g.snapshots_rise _ (λ s h. erased.gone.none (snapshot_key s) s h)),
        )

    right : (reply : SnapReply) → MayErase σ (content_at name σ.contents) → ErasesRightly σ (asks.EraseSnap name version) reply
    right (Listed ss cs n) m = tt
    right (Found s) m = tt
    right (Made row) m = m
    right (Left row) m = tt
    right (Refused why) m = tt

    by : (b : Bool) → (c.version == version) ≡ b → ErasesRightly σ (asks.EraseSnap name version) (reply_of (write (if b then Ok c else Err (Conflict c.version)) change))
    by true is = right (reply_of (change c)) (may (eqb-true c.version version is))
    by false is = tt

erases_rightly : (world : List Object) (σ : Side) → IsGood σ → (mine : List SnapEntry) → KnowsAll σ mine → KnowsGone σ mine → (ask : SnapAsk) → (is_users ask ≡ true) ⊎ SnapLicensed mine ask
    → ErasesRightly σ ask (reply_of (effect_of world σ ask))
unfolding effect_of worker_effect SnapLicensed
erases_rightly world σ g mine all gone (asks.EraseSnap name version) (inl users) = absurd (true≢false (sym users))
erases_rightly world σ g mine all gone (asks.EraseSnap name version) (inr told) = erases_at σ g name version (told_gone σ name version mine told all gone) _ (content_at name σ.contents) refl
erases_rightly world σ g mine all gone (asks.SnapGet namespace name) may = tt
erases_rightly world σ g mine all gone (asks.Snapshot namespace name claim policy) may = tt
erases_rightly world σ g mine all gone (asks.Content name namespace snapshot policy source) may = tt
erases_rightly world σ g mine all gone (asks.Unsnap namespace name) may = tt
erases_rightly world σ g mine all gone (asks.Uncontent name) may = tt
erases_rightly world σ g mine all gone asks.SnapList may = tt
erases_rightly world σ g mine all gone (asks.Cut namespace name u) may = tt
erases_rightly world σ g mine all gone (asks.BindContent name version u) may = tt
erases_rightly world σ g mine all gone (asks.BindSnapshot namespace name version content) may = tt
erases_rightly world σ g mine all gone (asks.DropSnapshot namespace name version) may = tt
erases_rightly world σ g mine all gone (asks.DropContent name version) may = tt

pub rules_hold : RulesHold
rules_hold [] run = rows_right [] good_first
rules_hold (c ∷ past) run =
    let before = known_of past run.0 in
    let now = known_of (c ∷ past) run in (
      rules_hold past run.0,
      rows_right (c ∷ past) now.good,
      subst (λ reply. ErasesRightly (side_after past) c.entry.ask reply) (sym run.1)
          (erases_rightly c.world (side_after past) before.good (own c.seat past) (before.all c.seat) (before.gone c.seat) c.entry.ask run.2),
    )
