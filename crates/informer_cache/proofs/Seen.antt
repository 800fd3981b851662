-- What is known of a key after it was told of, and after a list.
use Rattle.std.proofs.Common.{◌≡◌, ◌⊎◌, ℕ, List, Bool, true, false, true≢false, Option, Some, None, inl, inr, refl, sym, ◌∙◌, ap, subst, if◌then◌else◌, arith}
use Rattle.std.specs.Prelude.{nat_lt, option_map, is_some, IfSome, ⊤}
use Rattle.std.proofs.lemmas.Bool.Decides.{nat_tests}
use Rattle.kube_objects.specs.declared.key.Key.{Key}
use Rattle.kube_objects.specs.declared.objects.Object.{Object}
use Rattle.kube_objects.specs.Keys.{key_of, row_at, same_key}
use Rattle.kube_objects.proofs.KeyOrder.{row_at_key}
use Rattle.binder_model.specs.Told.{Telling, later, first_some, listing}
use Rattle.informer_cache.specs.declared.marks.Mark.{Mark}
use Rattle.informer_cache.specs.Marks.{mark_at, greater}
use Rattle.informer_cache.specs.Knowledge.{RowState, ListState, absence, covers, lacked, row_told, telling_in, tells_key, told_at}
use Rattle.informer_cache.specs.Steps.Sights.{Sight, Fits, AreRight, GoesOn, lacked_after, is_older, list_tells, seen}
use Rattle.kube_objects.proofs.SameKeys.{KeyCases, One, Two, key_cases}

pub later_none : (a : Option Telling) → later a None ≡ a
later_none None = refl
later_none (Some a) = refl

-- the later of three, whichever two come first
pub later_assoc : (a b c : Option Telling) → later a (later b c) ≡ later (later a b) c
later_assoc None b c = refl
later_assoc (Some a) None c = refl
later_assoc (Some a) (Some b) None = by (nat_lt a.version b.version)
  where
    by : (t : Bool) → (if t then Some b else Some a) ≡ later (if t then Some b else Some a) None
    by true = refl
    by false = refl
later_assoc (Some a) (Some b) (Some c) = by (nat_lt b.version c.version) (nat_lt a.version b.version) (nat_lt a.version c.version) refl refl refl
  where
    by : (bc ab ac : Bool) → nat_lt b.version c.version ≡ bc → nat_lt a.version b.version ≡ ab → nat_lt a.version c.version ≡ ac
        → later (Some a) (if bc then Some c else Some b) ≡ later (if ab then Some b else Some a) (Some c)
    by true true true e f g = rw (e, g) refl
    by true true false e f g = absurd (grind (arith, nat_tests))
    by true false true e f g = refl
    by true false false e f g = refl
    by false true true e f g = rw (e, f) refl
    by false true false e f g = rw (e, f) refl
    by false false true e f g = absurd (grind (arith, nat_tests))
    by false false false e f g = rw (f, g) refl

pub later_absences : (a b : Option ℕ) → later (absence a) (absence b) ≡ absence (greater a b)
later_absences None b = refl
later_absences (Some a) None = refl
later_absences (Some a) (Some b) = by (nat_lt a b)
  where
    by : (t : Bool) → (if t then Some (told_at b None) else Some (told_at a None)) ≡ absence (if t then Some b else Some a)
    by true = refl
    by false = refl

-- what is told of a key has the key
abbrev pub HasKey : Key → Option Telling → Type 0
HasKey key None = ⊤
HasKey key (Some t) = IfSome t.object (λ o. key_of o ≡ key)

later_has : (key : Key) (a b : Option Telling) → HasKey key a → HasKey key b → HasKey key (later a b)
later_has key None b h k = k
later_has key (Some a) None h k = h
later_has key (Some a) (Some b) h k = by (nat_lt a.version b.version)
  where
    by : (t : Bool) → HasKey key (if t then Some b else Some a)
    by true = k
    by false = h

found_has : (key : Key) (os : List Object) (found : Option Object) → row_at key os ≡ found → IfSome found (λ o. key_of o ≡ key)
found_has key os None e = tt
found_has key os (Some o) e = row_at_key key o os e

row_has : (marks : List Mark) (objects : List Object) (key : Key) → HasKey key (row_told marks objects key)
row_has marks objects key = by (mark_at key marks)
  where
    by : (m : Option Mark) → HasKey key (option_map (λ (x : Mark). told_at x.version (row_at key objects)) m)
    by None = tt
    by (Some m) = found_has key objects (row_at key objects) refl

absence_has : (key : Key) (v : Option ℕ) → HasKey key (absence v)
absence_has key None = tt
absence_has key (Some v) = tt

telling_has : (rows : RowState) (lists : ListState) (key : Key) → HasKey key (telling_in rows lists key)
telling_has rows lists key = by (row_told rows.marks rows.objects key) (row_has rows.marks rows.objects key)
  where
    by : (t : Option Telling) → HasKey key t → HasKey key (first_some t (absence (lacked lists key)))
    by None h = absence_has key (lacked lists key)
    by (Some t) h = h

list_has : (namespace : Option (List ℕ)) (version : ℕ) (items : List Object) (key : Key) → HasKey key (list_tells namespace version items key)
list_has namespace version items key = by (covers namespace key) (row_at key items) refl
  where
    by : (b : Bool) (o : Option Object) → row_at key items ≡ o → HasKey key (if b then Some (listing version o) else None)
    by false o e = tt
    by true None e = tt
    by true (Some o) e = row_at_key key o items e

pub seen_has : (s : Sight) (key : Key) → HasKey key (seen s key)
seen_has s key = later_has key _ _ (list_has s.namespace s.version s.items key) (telling_has s.rows s.lists key)

-- what lists told of a key is known of it where nothing else is
pub seen_lacked : (s : Sight) (key : Key) → row_at key s.items ≡ None → mark_at key s.rows.marks ≡ None → absence (lacked_after s.lists s.namespace s.version key) ≡ seen s key
seen_lacked s key none unmarked = rw (none, unmarked) (by (covers s.namespace key))
  where
    by : (b : Bool) → absence (if b then greater (Some s.version) (lacked s.lists key) else lacked s.lists key) ≡ later
        (if b then Some (listing s.version None) else None) (absence (lacked s.lists key))
    by true = sym (later_absences (Some s.version) (lacked s.lists key))
    by false = refl

some_later : (a : Telling) (b : Option Telling) → later (Some a) b ≡ None → ⊥
some_later a None h = true≢false (ap is_some h)
some_later a (Some b) h = by (nat_lt a.version b.version) h
  where
    by : (t : Bool) → (if t then Some b else Some a) ≡ None → ⊥
    by true h = true≢false (ap is_some h)
    by false h = true≢false (ap is_some h)

-- where nothing is known after a list, lists tell nothing either
pub seen_none : (s : Sight) (key : Key) → seen s key ≡ None → absence (lacked_after s.lists s.namespace s.version key) ≡ None
seen_none s key e = by (covers s.namespace key) (row_told s.rows.marks s.rows.objects key) (lacked s.lists key) e
  where
    by : (b : Bool) (r : Option Telling) (l : Option ℕ)
        → later (if b then Some (listing s.version (row_at key s.items)) else None) (first_some r (absence l)) ≡ None → absence (if b then greater (Some s.version) l else l) ≡ None
    by false None None h = refl
    by false None (Some l) h = absurd (true≢false (ap is_some h))
    by false (Some r) l h = absurd (true≢false (ap is_some h))
    by true r l h = absurd (some_later _ (first_some r (absence l)) h)

-- rows into which the key was put with what is known of it
module _ (s : Sight) (before next : RowState) (key : Key) (t : Telling) (kind : next.kind ≡ before.kind) (is : seen s key ≡ Some t)
    (told : (k : Key) → row_told next.marks next.objects k ≡ (if same_key key k then Some t else row_told before.marks before.objects k)) where
  abbrev lists_tell : Key → Option Telling
  lists_tell k = absence (lacked_after s.lists s.namespace s.version k)

  here : (k : Key) → key ≡ k → same_key key k ≡ true → Fits s next k
  here k same e = ap (λ r. first_some r (lists_tell k)) (told k ∙ ap (λ b. if b then Some t else row_told before.marks before.objects k) e) ∙ subst (λ j. Some t ≡ seen s j) same (sym is)

  there : (k : Key) → same_key key k ≡ false → row_told next.marks next.objects k ≡ row_told before.marks before.objects k
  there k e = told k ∙ ap (λ b. if b then Some t else row_told before.marks before.objects k) e

  pub put_on : AreRight s before → GoesOn s before next
  put_on right = ((kind, λ k of. at k (key_cases key k) (right k of)), λ k fits. kept k (key_cases key k) fits)
    where
      at : (k : Key) → KeyCases key k → ((row_told before.marks before.objects k ≡ None) ⊎ Fits s before k) → (row_told next.marks next.objects k ≡ None) ⊎ Fits s next k
      at k (One e same) h = inr (here k same e)
      at k (Two e differs) (inl none) = inl (there k e ∙ none)
      at k (Two e differs) (inr fits) = inr (ap (λ r. first_some r (lists_tell k)) (there k e) ∙ fits)

      kept : (k : Key) → KeyCases key k → Fits s before k → Fits s next k
      kept k (One e same) fits = here k same e
      kept k (Two e differs) fits = ap (λ r. first_some r (lists_tell k)) (there k e) ∙ fits

  pub put_fits : Fits s next key
  put_fits = at (key_cases key key)
    where
      at : KeyCases key key → Fits s next key
      at (One e same) = here key same e
      at (Two e differs) = absurd (differs refl)

-- nothing was put in
pub stays_on : (s : Sight) (rows : RowState) → AreRight s rows → GoesOn s rows rows
stays_on s rows right = ((refl, right), λ k fits. fits)

pub goes_further : (s : Sight) (first second third : RowState) → GoesOn s first second → GoesOn s second third → GoesOn s first third
goes_further s first second third a b = ((b.0.0 ∙ a.0.0, b.0.1), λ k fits. b.1 k (a.1 k fits))

-- rows into which the key was put with what it was told, which is not older than what was known
pub told_put : (lists : ListState) (before next : RowState) (key : Key) (t : Telling)
    → is_older t.version (option_map (λ (u : Telling). u.version) (telling_in before lists key)) ≡ false
    → ((k : Key) → row_told next.marks next.objects k ≡ (if same_key key k then Some t else row_told before.marks before.objects k)) → (k : Key)
    → telling_in next lists k ≡ later (tells_key key t k) (telling_in before lists k)
told_put lists before next key t newer told k = by (key_cases key k)
  where
    newest : (known : Option Telling) → is_older t.version (option_map (λ (u : Telling). u.version) known) ≡ false → Some t ≡ later (Some t) known
    newest None h = refl
    newest (Some u) h = rw h refl

    row : (b : Bool) → same_key key k ≡ b → row_told next.marks next.objects k ≡ (if b then Some t else row_told before.marks before.objects k)
    row b e = told k ∙ ap (λ x. if x then Some t else row_told before.marks before.objects k) e

    by : KeyCases key k → telling_in next lists k ≡ later (tells_key key t k) (telling_in before lists k)
    by (One e same) = ap (λ r. first_some r (absence (lacked lists k))) (row true e)
        ∙ newest (telling_in before lists k) (subst
        (λ j. is_older t.version (option_map (λ (u : Telling). u.version) (telling_in before lists j)) ≡ false) same newer)
        ∙ ap (λ x. later (if x then Some t else None) (telling_in before lists k)) (sym e)
    by (Two e differs) = ap (λ r. first_some r (absence (lacked lists k))) (row false e) ∙ ap (λ x. later (if x then Some t else None) (telling_in before lists k)) (sym e)
