-- What each move of a place does to the lists and to the work that they stand for.
use Rattle.std.proofs.Common.{◌≡◌, ℕ, ◌<◌, ◌≤◌, Bool, List, [], ◌∷◌, ◌++◌, length, Option, Some, true, slice_get, sym, ap, subst, ◌∙◌, arith}
use Rattle.std.specs.Prelude.{remove}
use Rattle.kube_objects.specs.declared.key.Key.{Key}
use Rattle.kube_objects.specs.Keys.{same_key}
use Rattle.sync_queue.specs.declared.lanes.KeyStage.{KeyStage}
use Rattle.sync_queue.specs.declared.lanes.KeyStage.TheVariants.{Waiting, Again, Parked, Gone}
use Rattle.sync_queue.specs.declared.lanes.KeyStage.TheVariants.{Taken as Begun}
use Rattle.sync_queue.specs.Work.{Work, without_waiting, queued, put_aside, marked, unparked, released, begun}
use Rattle.sync_queue.specs.Steps.Lanes.{woken_first, AreLanes, IsLane, IsSet, work_of, is_taken, is_parked}
use Rattle.sync_queue.specs.Steps.Places.{AreBelow, key_there, keys_at}
use Rattle.sync_queue.proofs.MapPlaces.{any_there, below_at, below_more, below_push, below_remove, keys_more, keys_push, keys_remove, length-keys_at, longer, remove_once, there_at, there_last}
use Rattle.sync_queue.proofs.Moves.{IsAway, Moved, admit-moved, begin-moved, mark-moved, park-moved, release-moved, requeue-moved, unpark-moved, wake-moved}

-- the lists of places are sound, and stand for this work
pub record Stands (after : Key → Option KeyStage) (ks : List Key) (ws ts ps : List ℕ) (w : Work) : Type 0 where
  pub lanes : AreLanes after (keys_at ks ws) (keys_at ks ts) (keys_at ks ps)
  pub work : work_of after (keys_at ks ws) (keys_at ks ts) (keys_at ks ps) ≡ w
  pub waiting : AreBelow (length ks) ws
  pub taken : AreBelow (length ks) ts
  pub parked : AreBelow (length ks) ps

-- the map's keys are these
stands : (after : Key → Option KeyStage) (js ks : List Key) (ws ts ps : List ℕ) (w : Work) → js ≡ ks → Moved after (keys_at ks ws) (keys_at ks ts) (keys_at ks ps) w
    → AreBelow (length ks) ws → AreBelow (length ks) ts → AreBelow (length ks) ps → Stands after js ws ts ps w
stands after js ks ws ts ps w e m bw bt bp = subst (λ ls. Stands after ls ws ts ps w) (sym e) (record { lanes = m.lanes; work = m.work; waiting = bw; taken = bt; parked = bp })

below_pushed : (n : ℕ) (us us' : List ℕ) (place : ℕ) → us' ≡ us ++ place ∷ [] → place < n → AreBelow n us → AreBelow n us'
below_pushed n us us' place e lt b = subst (AreBelow n) (sym e) (below_push n us place lt b)

below_out : (n : ℕ) (us us' : List ℕ) (at : ℕ) → us' ≡ remove us at → AreBelow n us → AreBelow n us'
below_out n us us' at e b = subst (AreBelow n) (sym e) (below_remove n us at b)

module _ (ks : List Key) where
  -- a place that comes last on a list
  pub pushed : (us us' : List ℕ) (place : ℕ) → us' ≡ us ++ place ∷ [] → keys_at ks us' ≡ keys_at ks us ++ key_there ks place ∷ []
  pushed us us' place e = ap (keys_at ks) e ∙ keys_push ks us place

  -- what stands there on a list goes from it
  module _ (test : Option KeyStage → Bool) (stage : Key → Option KeyStage) (us : List ℕ) (lane : IsLane test stage (keys_at ks us)) (at : ℕ) (lt : at < length us) where
    within : at < length (keys_at ks us)
    within = subst (λ n. at < n) (sym (length-keys_at ks us)) lt

    out_of : (us' : List ℕ) → us' ≡ remove us at → keys_at ks us' ≡ without_waiting (same_key (key_there (keys_at ks us) at)) (keys_at ks us)
    out_of us' e = ap (keys_at ks) e ∙ (keys_remove ks us at ∙ remove_once (keys_at ks us) at lane.once within)

    tested : test (stage (key_there (keys_at ks us) at)) ≡ true
    tested = sym (lane.says (key_there (keys_at ks us) at)) ∙ any_there (keys_at ks us) at within

  module _ (stage after : Key → Option KeyStage) (ws ts ps : List ℕ) (lanes : AreLanes stage (keys_at ks ws) (keys_at ks ts) (keys_at ks ps))
      (bw : AreBelow (length ks) ws) (bt : AreBelow (length ks) ts) (bp : AreBelow (length ks) ps) (js : List Key) (same : js ≡ ks) (at place : ℕ) where
    -- a taken key
    module _ (there : slice_get ts at ≡ Some place) (lt : at < length ts) where
      placed : place < length ks
      placed = below_at (length ks) ts at place there bt

      named : key_there (keys_at ks ts) at ≡ key_there ks place
      named = there_at ks ts at place there

      set_for : (s : KeyStage) → IsSet stage (key_there ks place) (Some s) after → IsSet stage (key_there (keys_at ks ts) at) (Some s) after
      set_for s set = subst (λ (j : Key). IsSet stage j (Some s) after) (sym named) set

      last : (us us' : List ℕ) → us' ≡ us ++ place ∷ [] → keys_at ks us' ≡ keys_at ks us ++ key_there (keys_at ks ts) at ∷ []
      last us us' e = pushed us us' place e ∙ ap (λ (j : Key). keys_at ks us ++ j ∷ []) (sym named)

      pub requeue-at : IsSet stage (key_there ks place) (Some Waiting) after → (ws' ts' : List ℕ) → ws' ≡ ws ++ place ∷ [] → ts' ≡ remove ts at
          → Stands after js ws' ts' ps (queued (key_there (keys_at ks ts) at) (released (key_there (keys_at ks ts) at) (work_of stage (keys_at ks ws) (keys_at ks ts) (keys_at ks ps))))
      requeue-at set ws' ts' e f = stands after js ks ws' ts' ps _ same (requeue-moved stage after _ _ _ _ lanes (set_for Waiting set)
          (tested is_taken stage ts lanes.taken at lt) _ _ (last ws ws' e) (out_of is_taken stage ts lanes.taken at lt ts' f))
          (below_pushed _ ws ws' place e placed bw) (below_out _ ts ts' at f bt) bp

      pub park-at : IsSet stage (key_there ks place) (Some Parked) after → (ts' ps' : List ℕ) → ts' ≡ remove ts at → ps' ≡ ps ++ place ∷ []
          → Stands after js ws ts' ps' (put_aside (key_there (keys_at ks ts) at) (released (key_there (keys_at ks ts) at) (work_of stage (keys_at ks ws) (keys_at ks ts) (keys_at ks ps))))
      park-at set ts' ps' e f = stands after js ks ws ts' ps' _ same (park-moved stage after _ _ _ _ lanes (set_for Parked set)
          (tested is_taken stage ts lanes.taken at lt) _ _ (out_of is_taken stage ts lanes.taken at lt ts' e) (last ps ps' f))
          bw (below_out _ ts ts' at e bt) (below_pushed _ ps ps' place f placed bp)

      pub release-at : IsSet stage (key_there ks place) (Some Gone) after → (ts' : List ℕ) → ts' ≡ remove ts at
          → Stands after js ws ts' ps (released (key_there (keys_at ks ts) at) (work_of stage (keys_at ks ws) (keys_at ks ts) (keys_at ks ps)))
      release-at set ts' e = stands after js ks ws ts' ps _ same (release-moved stage after _ _ _ _ lanes (set_for Gone set)
          (tested is_taken stage ts lanes.taken at lt) _ (out_of is_taken stage ts lanes.taken at lt ts' e))
          bw (below_out _ ts ts' at e bt) bp

    -- a parked key
    module _ (there : slice_get ps at ≡ Some place) (lt : at < length ps) where
      pub unpark-at : IsSet stage (key_there ks place) (Some Waiting) after → (ws' ps' : List ℕ) → ws' ≡ ws ++ place ∷ [] → ps' ≡ remove ps at
          → Stands after js ws' ts ps' (queued (key_there (keys_at ks ps) at) (unparked (key_there (keys_at ks ps) at) (work_of stage (keys_at ks ws) (keys_at ks ts) (keys_at ks ps))))
      unpark-at set ws' ps' e f =
          let named = there_at ks ps at place there in
          stands after js ks ws' ts ps' _ same (unpark-moved stage after _ _ _ _ lanes
          (subst (λ (j : Key). IsSet stage j (Some Waiting) after) (sym named) set) (tested is_parked stage ps lanes.parked at lt) _ _
          (pushed ws ws' place e ∙ ap (λ (j : Key). keys_at ks ws ++ j ∷ []) (sym named)) (out_of is_parked stage ps lanes.parked at lt ps' f))
          (below_pushed _ ws ws' place e (below_at (length ks) ps at place there bp) bw) bt (below_out _ ps ps' at f bp)

  -- the oldest waiting key
  pub begin-at : (stage after : Key → Option KeyStage) (vs ws ts ps : List ℕ) (place : ℕ) → vs ≡ place ∷ ws
      → AreLanes stage (keys_at ks vs) (keys_at ks ts) (keys_at ks ps) → AreBelow (length ks) vs → AreBelow (length ks) ts → AreBelow (length ks) ps
      → (js : List Key) → js ≡ ks → IsSet stage (key_there ks place) (Some Begun) after → (ts' : List ℕ) → ts' ≡ ts ++ place ∷ []
      → Stands after js ws ts' ps (begun (work_of stage (keys_at ks vs) (keys_at ks ts) (keys_at ks ps)))
  begin-at stage after vs ws ts ps place e lanes bv bt bp js same set ts' f =
      let b = subst (AreBelow (length ks)) e bv in
      stands after js ks ws ts' ps _ same (begin-moved stage after (key_there ks place) (keys_at ks ws) (keys_at ks ts) (keys_at ks ps)
      (keys_at ks vs) (ap (keys_at ks) e) lanes set _ (pushed ts ts' place f))
      b.1 (below_pushed _ ts ts' place f b.0 bt) bp

  -- the key that was parked first
  pub wake-at : (stage after : Key → Option KeyStage) (ws ts vs ps : List ℕ) (place : ℕ) → vs ≡ place ∷ ps
      → AreLanes stage (keys_at ks ws) (keys_at ks ts) (keys_at ks vs) → AreBelow (length ks) ws → AreBelow (length ks) ts → AreBelow (length ks) vs
      → (js : List Key) → js ≡ ks → IsSet stage (key_there ks place) (Some Waiting) after → (ws' : List ℕ) → ws' ≡ ws ++ place ∷ []
      → Stands after js ws' ts ps (woken_first (work_of stage (keys_at ks ws) (keys_at ks ts) (keys_at ks vs)))
  wake-at stage after ws ts vs ps place e lanes bw bt bv js same set ws' f =
      let b = subst (AreBelow (length ks)) e bv in
      stands after js ks ws' ts ps _ same (wake-moved stage after (key_there ks place) (keys_at ks ws) (keys_at ks ts) (keys_at ks ps)
      (keys_at ks vs) (ap (keys_at ks) e) lanes set _ (pushed ws ws' place f))
      (below_pushed _ ws ws' place f b.0 bw) bt b.1

  -- a key that was let go
  pub readmit-at : (stage after : Key → Option KeyStage) (ws ts ps : List ℕ) (place : ℕ) → place < length ks
      → AreLanes stage (keys_at ks ws) (keys_at ks ts) (keys_at ks ps) → AreBelow (length ks) ws → AreBelow (length ks) ts → AreBelow (length ks) ps
      → (js : List Key) → js ≡ ks → IsSet stage (key_there ks place) (Some Waiting) after → IsAway (stage (key_there ks place)) → (ws' : List ℕ)
      → ws' ≡ ws ++ place ∷ [] → Stands after js ws' ts ps (queued (key_there ks place) (work_of stage (keys_at ks ws) (keys_at ks ts) (keys_at ks ps)))
  readmit-at stage after ws ts ps place lt lanes bw bt bp js same set away ws' e =
      stands after js ks ws' ts ps _ same (admit-moved stage after (key_there ks place) (keys_at ks ws) (keys_at ks ts) (keys_at ks ps) lanes set away _ (pushed ws ws' place e))
      (below_pushed _ ws ws' place e lt bw) bt bp

  -- a taken key is marked
  pub mark-at : (stage after : Key → Option KeyStage) (ws ts ps : List ℕ) (k : Key) → AreLanes stage (keys_at ks ws) (keys_at ks ts) (keys_at ks ps)
      → AreBelow (length ks) ws → AreBelow (length ks) ts → AreBelow (length ks) ps
      → (js : List Key) → js ≡ ks → IsSet stage k (Some Again) after → is_taken (stage k) ≡ true → Stands after js ws ts ps (marked k (work_of stage (keys_at ks ws) (keys_at ks ts) (keys_at ks ps)))
  mark-at stage after ws ts ps k lanes bw bt bp js same set at = stands after js ks ws ts ps _ same (mark-moved stage after k (keys_at ks ws) (keys_at ks ts) (keys_at ks ps) lanes set at) bw bt bp

-- a new key, which stands last in the map
pub admit-at : (ks : List Key) (k : Key) (js : List Key) (stage after : Key → Option KeyStage) (ws ts ps : List ℕ) (place : ℕ) → js ≡ ks ++ k ∷ [] → place ≡ length ks
    → AreLanes stage (keys_at ks ws) (keys_at ks ts) (keys_at ks ps) → AreBelow (length ks) ws → AreBelow (length ks) ts → AreBelow (length ks) ps
    → IsSet stage k (Some Waiting) after → IsAway (stage k)
    → (ws' : List ℕ) → ws' ≡ ws ++ place ∷ [] → Stands after js ws' ts ps (queued k (work_of stage (keys_at ks ws) (keys_at ks ts) (keys_at ks ps)))
admit-at ks k js stage after ws ts ps place more last lanes bw bt bp set away ws' e =
    let all = ks ++ k ∷ [] in
    let here : key_there all place ≡ k = ap (key_there all) last ∙ there_last ks k in
    let waits : keys_at all ws' ≡ keys_at ks ws ++ k ∷ [] = pushed all ws ws' place e ∙ (λ i. keys_more ks k ws bw i ++ here i ∷ []) in
    let moved = admit-moved stage after k (keys_at ks ws) (keys_at ks ts) (keys_at ks ps) lanes set away _ waits in
    let taken = subst (λ (us : List Key). Moved after (keys_at all ws') us (keys_at ks ps)
    (queued k (work_of stage (keys_at ks ws) (keys_at ks ts) (keys_at ks ps)))) (sym (keys_more ks k ts bt)) moved in
    let parked = subst (λ (us : List Key). Moved after (keys_at all ws') (keys_at all ts) us
    (queued k (work_of stage (keys_at ks ws) (keys_at ks ts) (keys_at ks ps)))) (sym (keys_more ks k ps bp)) taken in
    let long = longer ks k in
    let le : length ks ≤ length all = omega (arith, long) in
    let lt : place < length all = omega (arith, long, last) in
    stands after js all ws' ts ps _ more parked (below_pushed _ ws ws' place e lt (below_more _ _ ws le bw)) (below_more _ _ ts le bt) (below_more _ _ ps le bp)
