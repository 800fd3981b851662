-- The last epoch of a node and the last read of a key, where their entry stands.
use Rattle.std.proofs.Common.{◌≡◌, ℕ, ◌+◌, Bool, true, false, true≢false, List, [], ◌∷◌, ◌++◌, Option, Some, None, take, drop, reverse, refl, sym, ◌∙◌, ap, inl, inr}
use Rattle.std.specs.Prelude.{◌&&◌, is_some, if◌then◌else◌}
use Rattle.kube_objects.specs.declared.key.Key.{Key}
use Rattle.call_types.specs.declared.entry.Entry.{Entry}
use Rattle.binder_model.specs.AgentLicence.{epoch_in, is_get_of, last_epoch, last_get, since_epoch, since_get}
use Rattle.binder_model.specs.Told.{SomeOf, first_some}
use Rattle.licence_scans.specs.Last.{IsLast}
use Rattle.licence_scans.proofs.Afters.{last_cut}

-- an entry that tells no epoch

epoch_cut : (node : List ℕ) (recent : List Entry) (e : Entry) (older : List Entry) → (SomeOf (λ x. is_some (epoch_in node x) ≡ true) recent → ⊥)
    → is_some (epoch_in node e) ≡ true → last_epoch node (recent ++ e ∷ older) ≡ epoch_in node e
epoch_cut node [] e older none is = by (epoch_in node e) is
  where
    by : (o : Option ℕ) → is_some o ≡ true → first_some o (last_epoch node older) ≡ o
    by (Some n) h = refl
    by None h = absurd (true≢false (sym h))
epoch_cut node (x ∷ recent) e older none is = by (epoch_in node x) (λ s. none (inl s)) (epoch_cut node recent e older (λ s. none (inr s)) is)
  where
    by : (o : Option ℕ) → (is_some o ≡ true → ⊥) → last_epoch node (recent ++ e ∷ older) ≡ epoch_in node e → first_some o (last_epoch node (recent ++ e ∷ older)) ≡ epoch_in node e
    by (Some n) not rest = absurd (not refl)
    by None not rest = rest

epoch_since : (node : List ℕ) (recent : List Entry) (e : Entry) (older : List Entry) → (SomeOf (λ x. is_some (epoch_in node x) ≡ true) recent → ⊥)
    → is_some (epoch_in node e) ≡ true → since_epoch node (recent ++ e ∷ older) ≡ recent
epoch_since node [] e older none is = rw is refl
epoch_since node (x ∷ recent) e older none is = by (is_some (epoch_in node x)) (λ s. none (inl s)) (epoch_since node recent e older (λ s. none (inr s)) is)
  where
    by : (b : Bool) → (b ≡ true → ⊥) → since_epoch node (recent ++ e ∷ older) ≡ recent → (if b then [] else x ∷ since_epoch node (recent ++ e ∷ older)) ≡ x ∷ recent
    by true not rest = absurd (not refl)
    by false not rest = ap (λ xs. x ∷ xs) rest

pub epoch_none : (node : List ℕ) (xs : List Entry) → (SomeOf (λ x. is_some (epoch_in node x) ≡ true) xs → ⊥) → last_epoch node xs ≡ None
epoch_none node [] none = refl
epoch_none node (x ∷ xs) none = by (epoch_in node x) (λ s. none (inl s)) (epoch_none node xs (λ s. none (inr s)))
  where
    by : (o : Option ℕ) → (is_some o ≡ true → ⊥) → last_epoch node xs ≡ None → first_some o (last_epoch node xs) ≡ None
    by (Some n) not rest = absurd (not refl)
    by None not rest = rest

pub epoch_last : (node : List ℕ) (mine : List Entry) (place : ℕ) (last : IsLast (λ x. is_some (epoch_in node x) ≡ true) mine place) → last_epoch node (reverse mine) ≡ epoch_in node last.entry
epoch_last node mine place last = ap (last_epoch node) (last_cut (λ x. is_some (epoch_in node x) ≡ true) mine place last)
    ∙ epoch_cut node (reverse (drop (place + 1) mine)) last.entry (reverse (take place mine)) last.since last.is

pub epoch_after : (node : List ℕ) (mine : List Entry) (place : ℕ) (last : IsLast (λ x. is_some (epoch_in node x) ≡ true) mine place) → since_epoch node (reverse mine) ≡ reverse (drop (place + 1) mine)
epoch_after node mine place last = ap (since_epoch node) (last_cut (λ x. is_some (epoch_in node x) ≡ true) mine place last)
    ∙ epoch_since node (reverse (drop (place + 1) mine)) last.entry (reverse (take place mine)) last.since last.is

-- reads

abbrev pub Reads : Key → Entry → Type 0
Reads key e = (e.told && is_get_of key e.request) ≡ true

get_cut : (key : Key) (recent : List Entry) (e : Entry) (older : List Entry) → (SomeOf (Reads key) recent → ⊥) → Reads key e → last_get key (recent ++ e ∷ older) ≡ Some e.reply
get_cut key [] e older none is = rw is refl
get_cut key (x ∷ recent) e older none is = by (x.told && is_get_of key x.request) (λ s. none (inl s)) (get_cut key recent e older (λ s. none (inr s)) is)
  where
    by : (b : Bool) → (b ≡ true → ⊥) → last_get key (recent ++ e ∷ older) ≡ Some e.reply → (if b then Some x.reply else last_get key (recent ++ e ∷ older)) ≡ Some e.reply
    by true not rest = absurd (not refl)
    by false not rest = rest

get_since : (key : Key) (recent : List Entry) (e : Entry) (older : List Entry) → (SomeOf (Reads key) recent → ⊥) → Reads key e → since_get key (recent ++ e ∷ older) ≡ recent
get_since key [] e older none is = rw is refl
get_since key (x ∷ recent) e older none is = by (x.told && is_get_of key x.request) (λ s. none (inl s)) (get_since key recent e older (λ s. none (inr s)) is)
  where
    by : (b : Bool) → (b ≡ true → ⊥) → since_get key (recent ++ e ∷ older) ≡ recent → (if b then [] else x ∷ since_get key (recent ++ e ∷ older)) ≡ x ∷ recent
    by true not rest = absurd (not refl)
    by false not rest = ap (λ xs. x ∷ xs) rest

pub get_none : (key : Key) (xs : List Entry) → (SomeOf (Reads key) xs → ⊥) → last_get key xs ≡ None
get_none key [] none = refl
get_none key (x ∷ xs) none = by (x.told && is_get_of key x.request) (λ s. none (inl s)) (get_none key xs (λ s. none (inr s)))
  where
    by : (b : Bool) → (b ≡ true → ⊥) → last_get key xs ≡ None → (if b then Some x.reply else last_get key xs) ≡ None
    by true not rest = absurd (not refl)
    by false not rest = rest

pub get_last : (key : Key) (mine : List Entry) (place : ℕ) (last : IsLast (Reads key) mine place) → last_get key (reverse mine) ≡ Some last.entry.reply
get_last key mine place last = ap (last_get key) (last_cut (Reads key) mine place last) ∙ get_cut key (reverse (drop (place + 1) mine)) last.entry (reverse (take place mine)) last.since last.is

pub get_after : (key : Key) (mine : List Entry) (place : ℕ) (last : IsLast (Reads key) mine place) → since_get key (reverse mine) ≡ reverse (drop (place + 1) mine)
get_after key mine place last = ap (since_get key) (last_cut (Reads key) mine place last) ∙ get_since key (reverse (drop (place + 1) mine)) last.entry (reverse (take place mine)) last.since last.is
