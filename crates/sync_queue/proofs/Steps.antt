-- What each call does to the work, by the stage of its key.
use Rattle.std.proofs.Common.{◌≡◌, ◌<◌, Bool, true, false, true≢false, cond, List, [], ◌∷◌, length, Option, Some, None, is_some, refl, sym, ap, ◌∙◌, append_assoc, append-nil, arith}
use Rattle.std.specs.Prelude.{if◌then◌else◌}
use Rattle.kube_objects.specs.declared.key.Key.{Key}
use Rattle.sync_queue.specs.declared.lanes.KeyStage.{KeyStage}
use Rattle.kube_objects.specs.Keys.{same_key}
use Rattle.sync_queue.specs.Work.{Work, Taken, oldest_of, added, queued, unparked, marked, done_by, finished, retry_by, put_off, woken}
use Rattle.sync_queue.specs.Steps.Lanes.{woken_first, AreLanes, marks, work_of, is_taken, is_again, is_waiting, is_parked}
use Rattle.sync_queue.proofs.LaneFacts.{any-marks, mark_of-marks, without-absent}

module _ (stage : Key → Option KeyStage) (k : Key) (ws ts ps : List Key) (sound : AreLanes stage ws ts ps) (s : Option KeyStage) (at : stage k ≡ s) where
  pub added-at : added k (work_of stage ws ts ps) ≡ (if is_taken s then marked k (work_of stage ws ts ps) else if is_waiting s then work_of stage ws
      ts ps else queued k (unparked k (work_of stage ws ts ps)))
  added-at =
      let w = work_of stage ws ts ps in
      let taken = any-marks stage k ts ∙ (sound.taken.says k ∙ ap is_taken at) in
      let waiting = sound.waiting.says k ∙ ap is_waiting at in
      λ i. if taken i then marked k w else if waiting i then w else queued k (unparked k w)

  finished-at : finished k (work_of stage ws ts ps) ≡ done_by (cond (is_taken s) (Some (is_again s)) None) k (work_of stage ws ts ps)
  finished-at =
      ap (λ m. done_by m k (work_of stage ws ts ps))
      (mark_of-marks stage k ts ∙ (ap (λ b. cond b (Some (is_again (stage k))) None) (sound.taken.says k) ∙ ap (λ x. cond (is_taken x) (Some (is_again x)) None) at))

  -- a taken key, by whether it is marked, and any other key
  pub finished-taken : (b : Bool) → is_taken s ≡ true → is_again s ≡ b → finished k (work_of stage ws ts ps) ≡ done_by (Some b) k (work_of stage ws ts ps)
  finished-taken b taken again = finished-at ∙ (ap (λ x. done_by (cond x (Some (is_again s)) None) k (work_of stage ws ts ps)) taken ∙ ap (λ x. done_by (Some x) k (work_of stage ws ts ps)) again)

  pub finished-other : is_taken s ≡ false → finished k (work_of stage ws ts ps) ≡ work_of stage ws ts ps
  finished-other taken = finished-at ∙ ap (λ x. done_by (cond x (Some (is_again s)) None) k (work_of stage ws ts ps)) taken

  put_off-at : put_off k (work_of stage ws ts ps) ≡ retry_by (cond (is_taken s) (Some (is_again s)) None) k (work_of stage ws ts ps)
  put_off-at =
      ap (λ m. retry_by m k (work_of stage ws ts ps))
      (mark_of-marks stage k ts ∙ (ap (λ b. cond b (Some (is_again (stage k))) None) (sound.taken.says k) ∙ ap (λ x. cond (is_taken x) (Some (is_again x)) None) at))

  pub put_off-taken : (b : Bool) → is_taken s ≡ true → is_again s ≡ b → put_off k (work_of stage ws ts ps) ≡ retry_by (Some b) k (work_of stage ws ts ps)
  put_off-taken b taken again = put_off-at ∙ (ap (λ x. retry_by (cond x (Some (is_again s)) None) k (work_of stage ws ts ps)) taken ∙ ap (λ x. retry_by (Some x) k (work_of stage ws ts ps)) again)

  pub put_off-other : is_taken s ≡ false → put_off k (work_of stage ws ts ps) ≡ work_of stage ws ts ps
  put_off-other taken = put_off-at ∙ ap (λ x. retry_by (cond x (Some (is_again s)) None) k (work_of stage ws ts ps)) taken

  -- a key that is not parked
  pub unparked-none : is_parked s ≡ false → unparked k (work_of stage ws ts ps) ≡ work_of stage ws ts ps
  unparked-none h = ap (λ us. record { waiting = ws; taken = marks stage ts; parked = us }) (without-absent (same_key k) ps (sound.parked.says k ∙ (ap is_parked at ∙ h)))

woken_step : (ws : List Key) (ts : List Taken) (ps : List Key) → woken (woken_first (record { waiting = ws; taken = ts; parked = ps })) ≡ woken (record { waiting = ws; taken = ts; parked = ps })
woken_step ws ts [] = refl
woken_step ws ts (k ∷ ks) = ap (λ us. record { waiting = us; taken = ts; parked = [] }) (append_assoc ws (k ∷ []) ks)

-- a key that is woken leaves the rest to be woken
pub woken-first : (w : Work) → woken (woken_first w) ≡ woken w
woken-first w = woken_step w.waiting w.taken w.parked

woken_last : (ws : List Key) (ts : List Taken) (ps : List Key) → false ≡ is_some (oldest_of ps)
    → woken_first (record { waiting = ws; taken = ts; parked = ps }) ≡ woken (record { waiting = ws; taken = ts; parked = ps })
woken_last ws ts [] h = ap (λ us. record { waiting = us; taken = ts; parked = [] }) (sym (append-nil ws))
woken_last ws ts (k ∷ ks) h = absurd (true≢false (sym h))

-- where nothing is parked, all are woken
pub woken-none : (w : Work) → false ≡ is_some (oldest_of w.parked) → woken_first w ≡ woken w
woken-none w h = woken_last w.waiting w.taken w.parked h

fewer : (ws : List Key) (ts : List Taken) (ps : List Key) → true ≡ is_some (oldest_of ps) → length (woken_first (record { waiting = ws; taken = ts; parked = ps })).parked < length ps
fewer ws ts [] h = absurd (true≢false h)
fewer ws ts (k ∷ ks) h = omega arith

pub woken-fewer : (w : Work) → true ≡ is_some (oldest_of w.parked) → length (woken_first w).parked < length w.parked
woken-fewer w h = fewer w.waiting w.taken w.parked h
