-- A key that goes from one list to another.
use Rattle.std.proofs.Common.{◌≡◌, Bool, true, false, ◌||◌, cond, List, [], ◌∷◌, ◌++◌, Option, Some, None, map, refl, sym, ap, subst, ◌∙◌}
use Rattle.std.specs.List.{list_any}
use Rattle.std.proofs.lemmas.Bool.{or_parts}
use Rattle.kube_objects.specs.declared.key.Key.{Key}
use Rattle.sync_queue.specs.declared.lanes.KeyStage.{KeyStage}
use Rattle.kube_objects.specs.Keys.{same_key}
use Rattle.sync_queue.specs.Work.{Taken, AreOnce, without_waiting, is_of, mark, mark_of}
use Rattle.sync_queue.specs.Steps.Lanes.{IsLane, IsSet, marks, is_again}
use Rattle.kube_objects.proofs.SameKeys.{same_key_itself, same_key_equivalence}
use Rattle.sync_queue.proofs.KeyFacts.{key_is}

or_none : (b : Bool) → (b || false) ≡ b
or_none true = refl
or_none false = refl

or_true : (b : Bool) → (b || true) ≡ true
or_true true = refl
or_true false = refl

or_assoc : (a b c : Bool) → (a || (b || c)) ≡ ((a || b) || c)
or_assoc true b c = refl
or_assoc false b c = refl

pub any-append : {X : Type 0} (p : X → Bool) (xs ys : List X) → list_any p (xs ++ ys) ≡ (list_any p xs || list_any p ys)
any-append p [] ys = refl
any-append p (x ∷ xs) ys = ap (λ b. p x || b) (any-append p xs ys) ∙ or_assoc (p x) (list_any p xs) (list_any p ys)

any-push : {X : Type 0} (p : X → Bool) (xs : List X) (x : X) → list_any p (xs ++ x ∷ []) ≡ (list_any p xs || p x)
any-push p xs x = any-append p xs (x ∷ []) ∙ ap (λ b. list_any p xs || b) (or_none (p x))

pub without-absent : {X : Type 0} (p : X → Bool) (xs : List X) → list_any p xs ≡ false → without_waiting p xs ≡ xs
without-absent p [] h = refl
without-absent p (x ∷ xs) h =
    let f = or_parts (p x) (list_any p xs) h in
    ap (λ b. cond b xs (x ∷ without_waiting p xs)) f.0 ∙ ap (λ ys. x ∷ ys) (without-absent p xs f.1)

any-less : {X : Type 0} (p t : X → Bool) (xs : List X) → list_any p xs ≡ false → list_any p (without_waiting t xs) ≡ false
any-less p t [] h = refl
any-less p t (x ∷ xs) h = by (t x) (or_parts (p x) (list_any p xs) h) (any-less p t xs)
  where
    by : (b : Bool) → (p x ≡ false) × (list_any p xs ≡ false) → (list_any p xs ≡ false → list_any p (without_waiting t xs) ≡ false) → list_any p (cond b xs (x ∷ without_waiting t xs)) ≡ false
    by true f rest = f.1
    by false f rest = ap (λ b. b || list_any p (without_waiting t xs)) f.0 ∙ rest f.1

once-push : (ks : List Key) (k : Key) → AreOnce ks → list_any (same_key k) ks ≡ false → AreOnce (ks ++ k ∷ [])
once-push [] k h a = (refl, tt)
once-push (j ∷ js) k h a =
    let f = or_parts (same_key k j) (list_any (same_key k) js) a in
    (any-push (same_key j) js k ∙ ap (λ b. b || same_key j k) h.0 ∙ (same_key_equivalence.symm j k ∙ f.0), once-push js k h.1 f.1)

once-without : (k : Key) (ks : List Key) → AreOnce ks → AreOnce (without_waiting (same_key k) ks)
once-without k [] h = tt
once-without k (j ∷ js) h = by (same_key k j) (once-without k js h.1)
  where
    by : (b : Bool) → AreOnce (without_waiting (same_key k) js) → AreOnce (cond b js (j ∷ without_waiting (same_key k) js))
    by true rest = h.1
    by false rest = (any-less (same_key j) (same_key k) js h.0, rest)

any-without : (k q : Key) (ks : List Key) → AreOnce ks → list_any (same_key q) (without_waiting (same_key k) ks) ≡ cond (same_key k q) false (list_any (same_key q) ks)
any-without k q [] h = by (same_key k q)
  where
    by : (b : Bool) → false ≡ cond b false false
    by true = refl
    by false = refl
any-without k q (j ∷ js) h = by (same_key k j) (same_key k q) refl refl (any-without k q js h.1)
  where
    by : (b c : Bool) → same_key k j ≡ b → same_key k q ≡ c
        → list_any (same_key q) (without_waiting (same_key k) js) ≡ cond (same_key k q) false (list_any (same_key q) js)
        → list_any (same_key q) (cond b js (j ∷ without_waiting (same_key k) js)) ≡ cond c false (same_key q j || list_any (same_key q) js)
    by true true e f rest = subst (λ (x : Key). list_any (same_key x) js ≡ false) (sym (key_is k j e) ∙ key_is k q f) h.0
    by true false e f rest = sym (ap (λ b. b || list_any (same_key q) js) (subst (λ (x : Key). same_key q x ≡ false) (key_is k j e) (same_key_equivalence.symm q k ∙ f)))
    by false true e f rest = ap (λ b. b || list_any (same_key q) (without_waiting (same_key k) js)) (subst (λ (x : Key). same_key x j ≡ false)
        (key_is k q f) e) ∙ (rest ∙ ap (λ b. cond b false (list_any (same_key q) js)) f)
    by false false e f rest = ap (λ b. same_key q j || b) (rest ∙ ap (λ b. cond b false (list_any (same_key q) js)) f)

pub once-append : (xs ys : List Key) → AreOnce xs → AreOnce ys → ((q : Key) → list_any (same_key q) xs ≡ true → list_any (same_key q) ys ≡ false) → AreOnce (xs ++ ys)
once-append [] ys h o apart = o
once-append (x ∷ xs) ys h o apart = (
  any-append (same_key x) xs ys ∙ ap (λ b. b || list_any (same_key x) ys) h.0
      ∙ apart x (ap (λ b. b || list_any (same_key x) xs) (same_key_itself x)),
  once-append xs ys h.1 o (λ q e. apart q (ap (λ b. same_key q x || b) e ∙ or_true (same_key q x))),
)

pub any-marks : (stage : Key → Option KeyStage) (k : Key) (ks : List Key) → list_any (is_of k) (marks stage ks) ≡ list_any (same_key k) ks
any-marks stage k [] = refl
any-marks stage k (j ∷ js) = ap (λ b. same_key k j || b) (any-marks stage k js)

pub keys-marks : (stage : Key → Option KeyStage) (ks : List Key) → map (λ (t : Taken). t.key) (marks stage ks) ≡ ks
keys-marks stage [] = refl
keys-marks stage (j ∷ js) = ap (λ ys. j ∷ ys) (keys-marks stage js)

pub marks-without : (stage : Key → Option KeyStage) (k : Key) (ks : List Key) → marks stage (without_waiting (same_key k) ks) ≡ without_waiting (is_of k) (marks stage ks)
marks-without stage k [] = refl
marks-without stage k (j ∷ js) = by (same_key k j) (marks-without stage k js)
  where
    by : (b : Bool) → marks stage (without_waiting (same_key k) js) ≡ without_waiting (is_of k) (marks stage js)
        → marks stage (cond b js (j ∷ without_waiting (same_key k) js)) ≡ cond b (marks stage js) ((record { key = j; again = is_again (stage j) }) ∷ without_waiting (is_of k) (marks stage js))
    by true rest = refl
    by false rest = ap (λ ys. (record { key = j; again = is_again (stage j) }) ∷ ys) rest

pub marks-push : (stage : Key → Option KeyStage) (ks : List Key) (k : Key) → marks stage (ks ++ k ∷ []) ≡ marks stage ks ++ (record { key = k; again = is_again (stage k) }) ∷ []
marks-push stage [] k = refl
marks-push stage (j ∷ js) k = ap (λ ys. (record { key = j; again = is_again (stage j) }) ∷ ys) (marks-push stage js k)

pub mark_of-marks : (stage : Key → Option KeyStage) (k : Key) (ks : List Key) → mark_of k (marks stage ks) ≡ cond (list_any (same_key k) ks) (Some (is_again (stage k))) None
mark_of-marks stage k [] = refl
mark_of-marks stage k (j ∷ js) = by (same_key k j) refl (mark_of-marks stage k js)
  where
    by : (b : Bool) → same_key k j ≡ b → mark_of k (marks stage js) ≡ cond (list_any (same_key k) js) (Some (is_again (stage k))) None
        → cond b (Some (is_again (stage j))) (mark_of k (marks stage js)) ≡ cond (b || list_any (same_key k) js) (Some (is_again (stage k))) None
    by true e rest = ap (λ (x : Key). Some (is_again (stage x))) (sym (key_is k j e))
    by false e rest = rest

-- the key k has the stage s after, and each other key what it had
module _ (stage after : Key → Option KeyStage) (k : Key) (s : Option KeyStage) (set : IsSet stage k s after) where
  pub after_self : after k ≡ s
  after_self = set k ∙ ap (λ b. cond b s (stage k)) (same_key_itself k)

  after_other : (q : Key) → same_key k q ≡ false → after q ≡ stage q
  after_other q e = set q ∙ ap (λ b. cond b s (stage q)) e

  -- a list whose test tells the two stages of k not apart
  pub lane-kept : (test : Option KeyStage → Bool) (ks : List Key) → test (stage k) ≡ test s → IsLane test stage ks → IsLane test after ks
  lane-kept test ks alike l = record { says = λ q. l.says q ∙ sym (ap test (set q) ∙ by q (same_key k q) refl); once = l.once }
    where
      by : (q : Key) (b : Bool) → same_key k q ≡ b → test (cond b s (stage q)) ≡ test (stage q)
      by q true e = sym alike ∙ ap (λ (x : Key). test (stage x)) (key_is k q e)
      by q false e = refl

  -- the list on which k comes
  pub lane-push : (test : Option KeyStage → Bool) (ks : List Key) → test (stage k) ≡ false → test s ≡ true → IsLane test stage ks → IsLane test after (ks ++ k ∷ [])
  lane-push test ks off on l = record { says = λ q. any-push (same_key q) ks k ∙ (ap (λ b. b || same_key q k) (l.says q) ∙ by q (same_key k q) refl); once = once-push ks k l.once (l.says k ∙ off) }
    where
      by : (q : Key) (b : Bool) → same_key k q ≡ b → (test (stage q) || same_key q k) ≡ test (after q)
      by q true e = ap (λ b. test (stage q) || b) (same_key_equivalence.symm q k ∙ e) ∙ (or_true (test (stage q)) ∙ sym (ap test (set q) ∙ (ap (λ b. test (cond b s (stage q))) e ∙ on)))
      by q false e = ap (λ b. test (stage q) || b) (same_key_equivalence.symm q k ∙ e) ∙ (or_none (test (stage q)) ∙ sym (ap test (after_other q e)))

  -- the list from which k goes
  pub lane-drop : (test : Option KeyStage → Bool) (ks : List Key) → test s ≡ false → IsLane test stage ks → IsLane test after (without_waiting (same_key k) ks)
  lane-drop test ks off l = record { says = λ q. any-without k q ks l.once ∙ (ap (λ b. cond (same_key k q) false b) (l.says q) ∙ by q (same_key k q) refl); once = once-without k ks l.once }
    where
      by : (q : Key) (b : Bool) → same_key k q ≡ b → cond b false (test (stage q)) ≡ test (after q)
      by q true e = sym (ap test (set q) ∙ (ap (λ b. test (cond b s (stage q))) e ∙ off))
      by q false e = sym (ap test (after_other q e))

  -- the same, where k is the first
  pub lane-pop : (test : Option KeyStage → Bool) (ks : List Key) → test s ≡ false → IsLane test stage (k ∷ ks) → IsLane test after ks
  lane-pop test ks off l = subst (IsLane test after) (ap (λ b. cond b ks (k ∷ without_waiting (same_key k) ks)) (same_key_itself k)) (lane-drop test (k ∷ ks) off l)

  pub marks-other : (ks : List Key) → list_any (same_key k) ks ≡ false → marks after ks ≡ marks stage ks
  marks-other [] h = refl
  marks-other (j ∷ js) h =
      let f = or_parts (same_key k j) (list_any (same_key k) js) h in
      let rest = marks-other js f.1 in
      let same = after_other j f.0 in
      λ i. (record { key = j; again = is_again (same i) }) ∷ rest i

  -- k leaves the taken keys
  pub marks-drop : (ks : List Key) → AreOnce ks → marks after (without_waiting (same_key k) ks) ≡ without_waiting (is_of k) (marks stage ks)
  marks-drop ks once =
      marks-other (without_waiting (same_key k) ks) (any-without k k ks once ∙ ap (λ b. cond b false (list_any (same_key k) ks)) (same_key_itself k)) ∙ marks-without stage k ks

  -- k comes to the taken keys
  pub marks-come : (ks : List Key) → is_again s ≡ false → list_any (same_key k) ks ≡ false → marks after (ks ++ k ∷ []) ≡ marks stage ks ++ (record { key = k; again = false }) ∷ []
  marks-come ks off h =
      marks-push after ks k ∙ (ap (λ ts. ts ++ (record { key = k; again = is_again (after k) }) ∷ []) (marks-other ks h) ∙ ap
      (λ b. marks stage ks ++ (record { key = k; again = b }) ∷ []) (ap is_again after_self ∙ off))

  -- k is marked
  pub marks-mark : (ks : List Key) → is_again s ≡ true → marks after ks ≡ map (mark k) (marks stage ks)
  marks-mark [] on = refl
  marks-mark (j ∷ js) on =
      let rest = marks-mark js on in
      let one = ap is_again (set j) ∙ by (same_key k j) in
      let two = mine (same_key k j) in
      ap (λ b. (record { key = j; again = b }) ∷ marks after js) one ∙ (ap (λ t. t ∷ marks after js) two ∙ ap (λ ts. mark k (record { key = j; again = is_again (stage j) }) ∷ ts) rest)
    where
      by : (b : Bool) → is_again (cond b s (stage j)) ≡ cond b true (is_again (stage j))
      by true = on
      by false = refl

      mine : (b : Bool) → (record { key = j; again = cond b true (is_again (stage j)) }) ≡ cond {A = Taken} b (record { key = j; again = true }) (record { key = j; again = is_again (stage j) })
      mine true = refl
      mine false = refl
