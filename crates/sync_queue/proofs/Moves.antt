-- What each move of a key does to the lists and to the work that they stand for.
use Rattle.std.proofs.Common.{◌≡◌, Bool, true, false, true≢false, ◌||◌, List, [], ◌∷◌, ◌++◌, Option, Some, None, refl, sym, ap, subst, ◌∙◌}
use Rattle.std.specs.List.{list_any}
use Rattle.kube_objects.specs.declared.key.Key.{Key}
use Rattle.sync_queue.specs.declared.lanes.KeyStage.{KeyStage}
use Rattle.sync_queue.specs.declared.lanes.KeyStage.TheVariants.{Waiting, Again, Parked, Gone}
use Rattle.sync_queue.specs.declared.lanes.KeyStage.TheVariants.{Taken as Begun}
use Rattle.kube_objects.specs.Keys.{same_key}
use Rattle.sync_queue.specs.Work.{Work, AreOnce, StandsOnce, without_waiting, queued, put_aside, marked, unparked, released, begun}
use Rattle.sync_queue.specs.Steps.Lanes.{woken_first, AreLanes, IsSet, work_of, is_taken, is_waiting, is_parked}
use Rattle.kube_objects.proofs.SameKeys.{same_key_itself}
use Rattle.sync_queue.proofs.LaneFacts.{lane-kept, lane-push, lane-drop, lane-pop, marks-other, marks-drop, marks-come, marks-mark, once-append, any-append, keys-marks}

-- a taken key neither waits nor is parked
taken_alone : (x : Option KeyStage) → is_taken x ≡ true → (is_waiting x ≡ false) × (is_parked x ≡ false)
taken_alone None h = absurd (true≢false (sym h))
taken_alone (Some Waiting) h = absurd (true≢false (sym h))
taken_alone (Some Begun) h = (refl, refl)
taken_alone (Some Again) h = (refl, refl)
taken_alone (Some Parked) h = absurd (true≢false (sym h))
taken_alone (Some Gone) h = absurd (true≢false (sym h))

parked_alone : (x : Option KeyStage) → is_parked x ≡ true → (is_waiting x ≡ false) × (is_taken x ≡ false)
parked_alone None h = absurd (true≢false (sym h))
parked_alone (Some Waiting) h = absurd (true≢false (sym h))
parked_alone (Some Begun) h = absurd (true≢false (sym h))
parked_alone (Some Again) h = absurd (true≢false (sym h))
parked_alone (Some Parked) h = (refl, refl)
parked_alone (Some Gone) h = absurd (true≢false (sym h))

waiting_alone : (x : Option KeyStage) → is_waiting x ≡ true → (is_taken x ≡ false) × (is_parked x ≡ false)
waiting_alone None h = absurd (true≢false (sym h))
waiting_alone (Some Waiting) h = (refl, refl)
waiting_alone (Some Begun) h = absurd (true≢false (sym h))
waiting_alone (Some Again) h = absurd (true≢false (sym h))
waiting_alone (Some Parked) h = absurd (true≢false (sym h))
waiting_alone (Some Gone) h = absurd (true≢false (sym h))

-- a key that stands on no list
pub record IsAway (x : Option KeyStage) : Type 0 where
  pub waiting : is_waiting x ≡ false
  pub taken : is_taken x ≡ false
  pub parked : is_parked x ≡ false

pub away_none : (x : Option KeyStage) → x ≡ None → IsAway x
away_none x e = subst IsAway (sym e) (record { waiting = refl; taken = refl; parked = refl })

pub away_gone : (x : Option KeyStage) → x ≡ Some Gone → IsAway x
away_gone x e = subst IsAway (sym e) (record { waiting = refl; taken = refl; parked = refl })

-- the lists are sound, and stand for this work
pub record Moved (after : Key → Option KeyStage) (ws ts ps : List Key) (w : Work) : Type 0 where
  pub lanes : AreLanes after ws ts ps
  pub work : work_of after ws ts ps ≡ w

module _ (stage after : Key → Option KeyStage) (k : Key) (ws ts ps : List Key) (sound : AreLanes stage ws ts ps) where
  pub admit-moved : IsSet stage k (Some Waiting) after → IsAway (stage k) → (ws' : List Key) → ws' ≡ ws ++ k ∷ [] → Moved after ws' ts ps (queued k (work_of stage ws ts ps))
  admit-moved set away ws' e =
      let move : Moved after (ws ++ k ∷ []) ts ps (queued k (work_of stage ws ts ps)) = record {
        lanes = record {
          waiting = lane-push stage after k (Some Waiting) set is_waiting ws away.waiting refl sound.waiting;
          taken = lane-kept stage after k (Some Waiting) set is_taken ts away.taken sound.taken;
          parked = lane-kept stage after k (Some Waiting) set is_parked ps away.parked sound.parked;
        };
        work = ap (λ ms. record { waiting = ws ++ k ∷ []; taken = ms; parked = ps }) (marks-other stage after k (Some Waiting) set ts (sound.taken.says k ∙ away.taken));
      } in
      subst (λ vs. Moved after vs ts ps (queued k (work_of stage ws ts ps))) (sym e) move

  pub mark-moved : IsSet stage k (Some Again) after → is_taken (stage k) ≡ true → Moved after ws ts ps (marked k (work_of stage ws ts ps))
  mark-moved set at =
      let other = taken_alone (stage k) at in
      record {
        lanes = record {
          waiting = lane-kept stage after k (Some Again) set is_waiting ws other.0 sound.waiting;
          taken = lane-kept stage after k (Some Again) set is_taken ts at sound.taken;
          parked = lane-kept stage after k (Some Again) set is_parked ps other.1 sound.parked;
        };
        work = ap (λ ms. record { waiting = ws; taken = ms; parked = ps }) (marks-mark stage after k (Some Again) set ts refl);
      }

  pub unpark-moved : IsSet stage k (Some Waiting) after → is_parked (stage k) ≡ true → (ws' ps' : List Key) → ws' ≡ ws ++ k ∷ []
      → ps' ≡ without_waiting (same_key k) ps → Moved after ws' ts ps' (queued k (unparked k (work_of stage ws ts ps)))
  unpark-moved set at ws' ps' e f =
      let other = parked_alone (stage k) at in
      let move : Moved after (ws ++ k ∷ []) ts (without_waiting (same_key k) ps) (queued k (unparked k (work_of stage ws ts ps))) = record {
        lanes = record {
          waiting = lane-push stage after k (Some Waiting) set is_waiting ws other.0 refl sound.waiting;
          taken = lane-kept stage after k (Some Waiting) set is_taken ts other.1 sound.taken;
          parked = lane-drop stage after k (Some Waiting) set is_parked ps refl sound.parked;
        };
        work = ap (λ ms. record { waiting = ws ++ k ∷ []; taken = ms; parked = without_waiting (same_key k) ps }) (marks-other stage after k (Some Waiting) set ts (sound.taken.says k ∙ other.1));
      } in
      subst (λ vs. Moved after vs ts ps' (queued k (unparked k (work_of stage ws ts ps)))) (sym e)
      (subst (λ vs. Moved after (ws ++ k ∷ []) ts vs (queued k (unparked k (work_of stage ws ts ps)))) (sym f) move)

  pub requeue-moved : IsSet stage k (Some Waiting) after → is_taken (stage k) ≡ true → (ws' ts' : List Key) → ws' ≡ ws ++ k ∷ []
      → ts' ≡ without_waiting (same_key k) ts → Moved after ws' ts' ps (queued k (released k (work_of stage ws ts ps)))
  requeue-moved set at ws' ts' e f =
      let other = taken_alone (stage k) at in
      let move : Moved after (ws ++ k ∷ []) (without_waiting (same_key k) ts) ps (queued k (released k (work_of stage ws ts ps))) = record {
        lanes = record {
          waiting = lane-push stage after k (Some Waiting) set is_waiting ws other.0 refl sound.waiting;
          taken = lane-drop stage after k (Some Waiting) set is_taken ts refl sound.taken;
          parked = lane-kept stage after k (Some Waiting) set is_parked ps other.1 sound.parked;
        };
        work = ap (λ ms. record { waiting = ws ++ k ∷ []; taken = ms; parked = ps }) (marks-drop stage after k (Some Waiting) set ts sound.taken.once);
      } in
      subst (λ vs. Moved after vs ts' ps (queued k (released k (work_of stage ws ts ps)))) (sym e)
      (subst (λ vs. Moved after (ws ++ k ∷ []) vs ps (queued k (released k (work_of stage ws ts ps)))) (sym f) move)

  pub park-moved : IsSet stage k (Some Parked) after → is_taken (stage k) ≡ true → (ts' ps' : List Key) → ts' ≡ without_waiting (same_key k) ts
      → ps' ≡ ps ++ k ∷ [] → Moved after ws ts' ps' (put_aside k (released k (work_of stage ws ts ps)))
  park-moved set at ts' ps' e f =
      let other = taken_alone (stage k) at in
      let move : Moved after ws (without_waiting (same_key k) ts) (ps ++ k ∷ []) (put_aside k (released k (work_of stage ws ts ps))) = record {
        lanes = record {
          waiting = lane-kept stage after k (Some Parked) set is_waiting ws other.0 sound.waiting;
          taken = lane-drop stage after k (Some Parked) set is_taken ts refl sound.taken;
          parked = lane-push stage after k (Some Parked) set is_parked ps other.1 refl sound.parked;
        };
        work = ap (λ ms. record { waiting = ws; taken = ms; parked = ps ++ k ∷ [] }) (marks-drop stage after k (Some Parked) set ts sound.taken.once);
      } in
      subst (λ vs. Moved after ws vs ps' (put_aside k (released k (work_of stage ws ts ps)))) (sym e)
      (subst (λ vs. Moved after ws (without_waiting (same_key k) ts) vs (put_aside k (released k (work_of stage ws ts ps)))) (sym f) move)

  pub release-moved : IsSet stage k (Some Gone) after → is_taken (stage k) ≡ true → (ts' : List Key) → ts' ≡ without_waiting (same_key k) ts
      → Moved after ws ts' ps (released k (work_of stage ws ts ps))
  release-moved set at ts' e =
      let other = taken_alone (stage k) at in
      let move : Moved after ws (without_waiting (same_key k) ts) ps (released k (work_of stage ws ts ps)) = record {
        lanes = record {
          waiting = lane-kept stage after k (Some Gone) set is_waiting ws other.0 sound.waiting;
          taken = lane-drop stage after k (Some Gone) set is_taken ts refl sound.taken;
          parked = lane-kept stage after k (Some Gone) set is_parked ps other.1 sound.parked;
        };
        work = ap (λ ms. record { waiting = ws; taken = ms; parked = ps }) (marks-drop stage after k (Some Gone) set ts sound.taken.once);
      } in
      subst (λ vs. Moved after ws vs ps (released k (work_of stage ws ts ps))) (sym e) move

-- a key stands on one list alone
module _ (stage : Key → Option KeyStage) (ws ts ps : List Key) (sound : AreLanes stage ws ts ps) where
  pub stands_once : StandsOnce (work_of stage ws ts ps)
  stands_once =
      let keys = sym (keys-marks stage ts) in
      let inner = once-append ws ts sound.waiting.once sound.taken.once (λ q e. sound.taken.says q ∙ (waiting_alone (stage q) (sym (sound.waiting.says q) ∙ e)).0) in
      let outer = once-append (ws ++ ts) ps inner sound.parked.once (λ q e. sound.parked.says q ∙ by q (list_any (same_key q) ws) refl (sym (any-append (same_key q) ws ts) ∙ e)) in
      subst (λ js. AreOnce (ws ++ js ++ ps)) keys outer
    where
      by : (q : Key) (b : Bool) → list_any (same_key q) ws ≡ b → (list_any (same_key q) ws || list_any (same_key q) ts) ≡ true → is_parked (stage q) ≡ false
      by q true e h = (waiting_alone (stage q) (sym (sound.waiting.says q) ∙ e)).1
      by q false e h = (taken_alone (stage q) (sym (sound.taken.says q) ∙ (sym (ap (λ b. b || list_any (same_key q) ts) e) ∙ h))).1

-- the oldest waiting key is taken
module _ (stage after : Key → Option KeyStage) (k : Key) (ws ts ps : List Key) where
  head_any : (ks : List Key) → list_any (same_key k) (k ∷ ks) ≡ true
  head_any ks = ap (λ b. b || list_any (same_key k) ks) (same_key_itself k)

  pub begin-moved : (vs : List Key) → vs ≡ k ∷ ws → AreLanes stage vs ts ps → IsSet stage k (Some Begun) after → (ts' : List Key)
      → ts' ≡ ts ++ k ∷ [] → Moved after ws ts' ps (begun (work_of stage vs ts ps))
  begin-moved vs e sound set ts' f = subst (λ us. AreLanes stage us ts ps → Moved after ws ts' ps (begun (work_of stage us ts ps))) (sym e) (λ l. move l) sound
    where
      move : AreLanes stage (k ∷ ws) ts ps → Moved after ws ts' ps (begun (work_of stage (k ∷ ws) ts ps))
      move l =
          let other = waiting_alone (stage k) (sym (l.waiting.says k) ∙ head_any ws) in
          let here : Moved after ws (ts ++ k ∷ []) ps (begun (work_of stage (k ∷ ws) ts ps)) = record {
            lanes = record {
              waiting = lane-pop stage after k (Some Begun) set is_waiting ws refl l.waiting;
              taken = lane-push stage after k (Some Begun) set is_taken ts other.0 refl l.taken;
              parked = lane-kept stage after k (Some Begun) set is_parked ps other.1 l.parked;
            };
            work = ap (λ ms. record { waiting = ws; taken = ms; parked = ps }) (marks-come stage after k (Some Begun) set ts refl (l.taken.says k ∙ other.0));
          } in
          subst (λ us. Moved after ws us ps (begun (work_of stage (k ∷ ws) ts ps))) (sym f) here

  pub wake-moved : (vs : List Key) → vs ≡ k ∷ ps → AreLanes stage ws ts vs → IsSet stage k (Some Waiting) after → (ws' : List Key)
      → ws' ≡ ws ++ k ∷ [] → Moved after ws' ts ps (woken_first (work_of stage ws ts vs))
  wake-moved vs e sound set ws' f = subst (λ us. AreLanes stage ws ts us → Moved after ws' ts ps (woken_first (work_of stage ws ts us))) (sym e) (λ l. move l) sound
    where
      move : AreLanes stage ws ts (k ∷ ps) → Moved after ws' ts ps (woken_first (work_of stage ws ts (k ∷ ps)))
      move l =
          let other = parked_alone (stage k) (sym (l.parked.says k) ∙ head_any ps) in
          let here : Moved after (ws ++ k ∷ []) ts ps (woken_first (work_of stage ws ts (k ∷ ps))) = record {
            lanes = record {
              waiting = lane-push stage after k (Some Waiting) set is_waiting ws other.0 refl l.waiting;
              taken = lane-kept stage after k (Some Waiting) set is_taken ts other.1 l.taken;
              parked = lane-pop stage after k (Some Waiting) set is_parked ps refl l.parked;
            };
            work = ap (λ ms. record { waiting = ws ++ k ∷ []; taken = ms; parked = ps }) (marks-other stage after k (Some Waiting) set ts (l.taken.says k ∙ other.1));
          } in
          subst (λ us. Moved after us ts ps (woken_first (work_of stage ws ts (k ∷ ps)))) (sym f) here
