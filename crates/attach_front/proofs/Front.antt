-- Where nothing is next a Mount that is due and not held passes: the own volume of each ready claim is attached, or attach refuses it.
use Rattle.std.proofs.Common.{sym, refl, inl, inr, ap, ◌∙◌, true≢false}
use Rattle.std.proofs.lemmas.Bool.{and_parts}
use Rattle.std.specs.Prelude.{if◌then◌else◌, not, ◌&&◌, ◌||◌, ℕ, ◌≡◌, Bool, true, false, List, [], ◌∷◌, Option, Some, None, is_none, is_some}
use Rattle.std.specs.List.{list_all, list_any}
use Rattle.kube_parts.specs.declared.names.Due.TheVariants as dues
use Rattle.kube_parts.specs.declared.uid.Uid.{Uid}
use Rattle.kube_objects.specs.declared.objects.Claim.{Claim as ClaimData}
use Rattle.kube_objects.specs.declared.objects.Pod.{Pod as PodData}
use Rattle.kube_objects.specs.declared.objects.Volume.{Volume as VolumeData}
use Rattle.kube_objects.specs.declared.objects.Object.{Object}
use Rattle.kube_objects.specs.declared.objects.Object.TheVariants.{Class, Node, Volume, Claim, Pod}
use Rattle.kube_objects.specs.Keys.{row_at}
use Rattle.kube_objects.specs.Bindings.{carries, is_completed, is_deleting, is_protected_claim, is_scheduled}
use Rattle.call_types.specs.declared.entry.Entry.{Entry}
use Rattle.call_types.specs.declared.request.Request.TheVariants as requests
use Rattle.call_types.specs.declared.setup.Setup.{Setup}
use Rattle.binder_model.specs.BindWrites.{is_claim_bound}
use Rattle.binder_model.specs.Choice.{claim_named}
use Rattle.binder_model.specs.Due.{carried_by, is_ready}
use Rattle.binder_model.specs.ObjectKeys.{claim_key, volume_key}
use Rattle.binder_model.specs.Promises.{IsRunOf}
use Rattle.binder_model.specs.World.{world}
use Rattle.model_laws.proofs.Lists.{IsIn, none_some}
use Rattle.model_laws.proofs.Readings.{found_stands}
use Rattle.settle_progress.specs.Drains.Held.{AreUidsOf, uid_in}
use Rattle.safety_law.specs.Invariant.Invariant.{Invariant}
use Rattle.safety_law.proofs.Invariant.Came.{row_was}
use Rattle.safety_law.proofs.Invariant.Known.{invariant_of}
use Rattle.safety_law.proofs.Law.FirstWorld.{first_world_is_good}
use Rattle.safety_law.proofs.Law.Law.{room_for}
use Rattle.safety_law.proofs.Law.Runs.{run_good}
use Rattle.attach_law.specs.declared.attachment.Attachment.{Attachment}
use Rattle.attach_law.specs.declared.attachment.AttachAsk.{AttachAsk}
use Rattle.attach_law.specs.declared.attachment.AttachAsk.TheVariants.{Attach}
use Rattle.attach_law.specs.Attached.{claim_with, is_attached, is_claim_attached, is_uid_attached, is_volume_attached, own_volume}
use Rattle.attach_law.specs.Calls.{AttachRefusal, attach_fault}
use Rattle.attach_law.specs.Next.{ask_for, ask_for_claim, ask_for_names, ask_for_uid, ask_for_volume, first_asked, first_idle, holds, is_blocked, is_blocked_uid, is_blocked_volume}
use Rattle.attach_law.proofs.ByUid.{UidsOnce, claim_is, own_is, row_named, uids_once}
use Rattle.attach_law.proofs.Listed.{both_none, both_true}
use Rattle.attach_front.specs.Front.{FreeMountsPass, HeldMountsDoNotPass}
use Rattle.attach_front.proofs.Alike.{worlds_alike_pass_alike}
use Rattle.attach_front.proofs.Due.{mount_due, one_action}

asked_none : (rows : List Object) (att : List Attachment) (os : List Object) (o : Object) → first_asked rows att os ≡ None → IsIn o os → ask_for rows att o ≡ None
asked_none rows att [] o e h = absurd h
asked_none rows att (x ∷ xs) o e h =
    let t = both_none (ask_for rows att x) (first_asked rows att xs) e in
    elim h [ inl is ↦ ap (ask_for rows att) (sym is) ∙ t.0 | inr more ↦ asked_none rows att xs o t.1 more ]

when_done : (b : Bool) (x : Option AttachAsk) → b ≡ true → (if b then x else None) ≡ None → x ≡ None
when_done true x e n = n
when_done false x e n = absurd (true≢false (sym e))

when_stays : (s d : Bool) (x : Option AttachAsk) → s ≡ true → d ≡ false → (if s && not d then x else None) ≡ None → x ≡ None
when_stays true false x a b n = n
when_stays true true x a b n = absurd (true≢false b)
when_stays false d x a b n = absurd (true≢false (sym a))

-- a UID that is not asked for and not blocked is attached
uid_attached : (rows : List Object) (att : List Attachment) (node : List ℕ) (x : Option Uid) → is_some x ≡ true → ask_for_uid rows att node x ≡ None
    → is_blocked_uid rows att node x ≡ false → is_uid_attached x node att ≡ true
uid_attached rows att node None has none free = absurd (true≢false (sym has))
uid_attached rows att node (Some u) has none free = by (is_attached u node att) (attach_fault rows u node att) none free
  where
    by : (b : Bool) (f : Option AttachRefusal) → (if not b && is_none f then Some (Attach u node) else None) ≡ None → (not b && is_some f) ≡ false → b ≡ true
    by true f n e = refl
    by false None n e = none_some (sym n)
    by false (Some why) n e = absurd (true≢false e)

-- and one that is blocked is not
blocked_apart : (rows : List Object) (att : List Attachment) (node : List ℕ) (x : Option Uid) → is_blocked_uid rows att node x ≡ true → is_uid_attached x node att ≡ false
blocked_apart rows att node None e = refl
blocked_apart rows att node (Some u) e = by (is_attached u node att) e
  where
    by : (b : Bool) → (not b && is_some (attach_fault rows u node att)) ≡ true → b ≡ false
    by true e = absurd (true≢false (sym e))
    by false e = refl

module _ (setup : Setup) (past : List Entry) (inv : Invariant setup past) (once : UidsOnce (world setup past).store.rows) (att : List Attachment) where
  -- a claim that is ready, neither asked for nor blocked, is attached
  ready_attached : (node : List ℕ) (c : ClaimData) → is_ready (world setup past).store.rows (Some c) ≡ true
      → ask_for_claim (world setup past).store.rows att node (Some c) ≡ None → is_blocked (world setup past).store.rows att node (Some c) ≡ false
      → is_claim_attached (world setup past).store.rows (Some c) node att ≡ true
  ready_attached node c ready none free =
      let under = row_at (volume_key c.volume_name) (world setup past).store.rows in
      let t = and_parts (not (is_deleting c.meta) && is_protected_claim c && is_completed c && is_claim_bound c.phase) (carried_by c under) ready in
      let s = and_parts (not (is_deleting c.meta) && is_protected_claim c && is_completed c) (is_claim_bound c.phase) t.0 in
      let done = (and_parts (not (is_deleting c.meta) && is_protected_claim c) (is_completed c) s.0).1 in
      by under refl t.1 done
    where
      carried : (v : VolumeData) → row_at (volume_key c.volume_name) (world setup past).store.rows ≡ Some (Volume v) → carries v c ≡ true → is_completed c ≡ true
          → is_claim_attached (world setup past).store.rows (Some c) node att ≡ true
      carried v there carrying done =
          let own = own_is (world setup past).store.rows c v there carrying in
          let has = inv.has (Volume v) (row_was setup past (volume_key c.volume_name) (Volume v) there) in
          let asked : ask_for_uid (world setup past).store.rows att node v.meta.uid ≡ None =
          ap (ask_for_volume (world setup past).store.rows att node) (sym own) ∙ when_done (is_completed c) _ done none in
          let unblocked : is_blocked_uid (world setup past).store.rows att node v.meta.uid ≡ false =
          ap (is_blocked_volume (world setup past).store.rows att node) (sym own) ∙ free in
          ap (λ x. is_volume_attached x node att) own ∙ uid_attached (world setup past).store.rows att node v.meta.uid has asked unblocked

      by : (x : Option Object) → row_at (volume_key c.volume_name) (world setup past).store.rows ≡ x → carried_by c x ≡ true → is_completed c ≡ true
          → is_claim_attached (world setup past).store.rows (Some c) node att ≡ true
      by (Some (Volume v)) there carrying done = carried v there carrying done
      by None there e done = absurd (true≢false (sym e))
      by (Some (Class x)) there e done = absurd (true≢false (sym e))
      by (Some (Node x)) there e done = absurd (true≢false (sym e))
      by (Some (Claim x)) there e done = absurd (true≢false (sym e))
      by (Some (Pod x)) there e done = absurd (true≢false (sym e))

  -- the claim of a name is that of its UID
  uid_named : (namespace name : List ℕ) (u : Uid) → uid_in (claim_named (world setup past).store.rows namespace name) ≡ Some u
      → claim_with u (world setup past).store.rows ≡ claim_named (world setup past).store.rows namespace name
  uid_named namespace name u e = by (claim_named (world setup past).store.rows namespace name) refl e
    where
      by : (x : Option ClaimData) → claim_named (world setup past).store.rows namespace name ≡ x → uid_in x ≡ Some u → claim_with u (world setup past).store.rows ≡ x
      by None is e = none_some e
      by (Some c) is e =
          let key = claim_key namespace name in
          let row = row_named (world setup past).store.rows namespace name c is in
          claim_is (world setup past).store.rows inv.order once key c u row e

  module _ (p : PodData) where
    abbrev named : List ℕ → Option ClaimData
    named name = claim_named (world setup past).store.rows p.meta.namespace name

    abbrev stands : Uid → Bool
    stands u = is_claim_attached (world setup past).store.rows (claim_with u (world setup past).store.rows) p.node att

    abbrev blocked : List ℕ → Bool
    blocked name = is_blocked (world setup past).store.rows att p.node (named name)

    by_name : (name : List ℕ) (u : Uid) → uid_in (named name) ≡ Some u → stands u ≡ is_claim_attached (world setup past).store.rows (named name) p.node att
    by_name name u e = ap (λ x. is_claim_attached (world setup past).store.rows x p.node att) (uid_named p.meta.namespace name u e)

    names_attached : (names : List (List ℕ)) (uids : List Uid) → list_all (λ name. is_ready (world setup past).store.rows (named name)) names ≡ true
        → ask_for_names (world setup past).store.rows att p names ≡ None → list_any blocked names ≡ false
        → AreUidsOf (world setup past).store.rows p.meta.namespace names uids → list_all stands uids ≡ true
    names_attached [] [] ready none free are = refl
    names_attached [] (u ∷ us) ready none free are = absurd are
    names_attached (n ∷ ns) [] ready none free are = absurd are
    names_attached (n ∷ ns) (u ∷ us) ready none free are =
        let r = and_parts (is_ready (world setup past).store.rows (named n)) (list_all (λ name. is_ready (world setup past).store.rows (named name)) ns) ready in
        let a = both_none (ask_for_claim (world setup past).store.rows att p.node (named n)) (ask_for_names (world setup past).store.rows att p ns) none in
        let f = none_of_two (is_blocked (world setup past).store.rows att p.node (named n)) _ free in
        both_true (by_name n u are.0 ∙ first (named n) r.0 a.0 f.0) (names_attached ns us r.1 a.1 f.1 are.1)
      where
        first : (x : Option ClaimData) → is_ready (world setup past).store.rows x ≡ true → ask_for_claim (world setup past).store.rows att p.node x ≡ None
            → is_blocked (world setup past).store.rows att p.node x ≡ false → is_claim_attached (world setup past).store.rows x p.node att ≡ true
        first None r a f = absurd (true≢false (sym r))
        first (Some c) r a f = ready_attached p.node c r a f

        none_of_two : (a b : Bool) → (a || b) ≡ false → (a ≡ false) × (b ≡ false)
        none_of_two true b e = absurd (true≢false e)
        none_of_two false b e = (refl, e)

    blocked_fails : (names : List (List ℕ)) (uids : List Uid) → list_any blocked names ≡ true
        → AreUidsOf (world setup past).store.rows p.meta.namespace names uids → list_all stands uids ≡ false
    blocked_fails [] uids e are = absurd (true≢false (sym e))
    blocked_fails (n ∷ ns) [] e are = absurd are
    blocked_fails (n ∷ ns) (u ∷ us) e are = by (is_blocked (world setup past).store.rows att p.node (named n)) refl e (λ m. blocked_fails ns us m are.1)
      where
        here : (x : Option ClaimData) → is_blocked (world setup past).store.rows att p.node x ≡ true → is_claim_attached (world setup past).store.rows x p.node att ≡ false
        here None b = absurd (true≢false (sym b))
        here (Some c) b = volume (own_volume (world setup past).store.rows c) b
          where
            volume : (x : Option VolumeData) → is_blocked_volume (world setup past).store.rows att p.node x ≡ true → is_volume_attached x p.node att ≡ false
            volume None b = absurd (true≢false (sym b))
            volume (Some v) b = blocked_apart (world setup past).store.rows att p.node v.meta.uid b

        left : (a b : Bool) → a ≡ false → (a && b) ≡ false
        left true b e = absurd (true≢false e)
        left false b e = refl

        right : (a b : Bool) → b ≡ false → (a && b) ≡ false
        right true b e = e
        right false b e = refl

        by : (b : Bool) → is_blocked (world setup past).store.rows att p.node (named n) ≡ b → (b || list_any blocked ns) ≡ true
            → (list_any blocked ns ≡ true → list_all stands us ≡ false) → (stands u && list_all stands us) ≡ false
        by true b e f = left _ _ (by_name n u are.0 ∙ here (named n) b)
        by false b e f = right _ _ (f e)

-- ---- the laws

good : (setup : Setup) (past : List Entry) → IsRunOf setup past → Invariant setup past
good setup past run =
    let start = first_world_is_good setup run.imports in
    invariant_of setup past (run_good setup start.invariant past (room_for setup start past run.short) run.run)

pub free_mounts_pass : FreeMountsPass
free_mounts_pass setup att start run nothing key (Pod p) action there due free = λ mount h epoch uid claims history alike known are.
    let inv = good setup start run in
    let w = world setup start in
    let m = mount_due setup w p mount in
    let same = one_action setup w p action due mount m.scheduled in
    let unblocked : holds w.store.rows att (Pod p) dues.Mount ≡ false = ap (holds w.store.rows att (Pod p)) (sym same) ∙ free in
    let silent = (both_none (first_idle w att) (first_asked w.store.rows att w.store.rows) nothing).1 in
    let asked = asked_none w.store.rows att w.store.rows (Pod p) silent (found_stands key (Pod p) w.store.rows there) in
    let none = when_stays (is_scheduled p) (is_deleting p.meta) _ m.scheduled m.staying asked in
    sym (worlds_alike_pass_alike w (world setup h) att (requests.Mount p.node epoch uid claims) alike)
    ∙ names_attached setup start inv (uids_once setup start run.imports run.short) att p p.claims claims m.ready none unblocked are
free_mounts_pass setup att start run nothing key o action there due free = tt

pub held_mounts_do_not_pass : HeldMountsDoNotPass
held_mounts_do_not_pass setup att past run p held epoch uid claims are = blocked_fails setup past (good setup past run) (uids_once setup past run.imports run.short) att p p.claims claims held are
