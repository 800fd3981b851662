-- Rows of topics that get one place more.
use Rattle.std.proofs.Common.{◌≡◌, ℕ, List, ◌∷◌, length, Bool, true, false, Option, Some, refl, sym, ◌∙◌, ap, subst, if◌then◌else◌}
use Rattle.std.specs.Prelude.{◌||◌, option_map}
use Rattle.std.specs.declared.cmp.Ordering.{Ordering}
use Rattle.std.specs.declared.cmp.Ordering.TheVariants.{Less, Equal, Greater}
use Rattle.std.specs.Ordering.{is_eq}
use Rattle.plain_data.proofs.RowLookups.{find-put, find-put_other}
use Rattle.call_types.specs.declared.entry.Entry.{Entry}
use Rattle.evidence_agent.specs.declared.by_place.topics.Topic.{Topic}
use Rattle.evidence_agent.specs.declared.by_place.lasts.Last.{Last}
use Rattle.evidence_agent.specs.Places.Topics.{asked_topic, found_topic, if_told, is_about, last_of, read_topic, topic_cmp}
use Rattle.evidence_agent.specs.Places.Rows.{AreLastsOf, place_in, place_of, topic_of}
use Rattle.evidence_agent.specs.Places.Steps.Putting.{Puts, last_row, put_last}
use Rattle.evidence_agent.proofs.Places.Order.{equal_topics, topic_cmp_total}

pub place_put : (t u : Topic) (place : ℕ) (rows : List Last) → place_in t (put_last u place rows) ≡ (if is_eq (topic_cmp u t) then Some place else place_in t rows)
place_put t u place rows = by (topic_cmp u t) refl
  where
    by : (r : Ordering) → topic_cmp u t ≡ r → place_in t (put_last u place rows) ≡ (if is_eq r then Some place else place_in t rows)
    by Less e = ap (option_map place_of) (find-put_other topic_cmp_total topic_of t (last_row u place) rows (ap is_eq e))
    by Equal e = subst (λ (k : Topic). place_in k (put_last u place rows) ≡ Some place) (equal_topics u t e) (ap (option_map place_of) (find-put topic_cmp_total topic_of (last_row u place) rows))
    by Greater e = ap (option_map place_of) (find-put_other topic_cmp_total topic_of t (last_row u place) rows (ap is_eq e))

merged : (a b d : Bool) (p o : Option ℕ) → (if d then p else (if b then p else (if a then p else o))) ≡ (if a || (b || d) then p else o)
merged true true true p o = refl
merged true true false p o = refl
merged true false true p o = refl
merged true false false p o = refl
merged false true true p o = refl
merged false true false p o = refl
merged false false true p o = refl
merged false false false p o = refl

heard : (told : Bool) (r : Option Topic) (t : Topic) → told ≡ true → is_about t r ≡ is_about t (if_told told r)
heard told r t h = ap (λ b. is_about t (if_told b r)) (sym h)

-- after an entry that was told
pub told_lasts : (e : Entry) (mine : List Entry) (place : ℕ) (a b d f : List Last) → e.told ≡ true → length mine ≡ place
    → Puts (asked_topic e.request) place a b → Puts (read_topic e.request e.reply) place b d → Puts (found_topic e.reply) place d f → AreLastsOf a mine → AreLastsOf f (e ∷ mine)
told_lasts e mine place a b d f told at first second third all t =
    let asked = is_about t (asked_topic e.request) in
    let read = is_about t (read_topic e.request e.reply) in
    let found = is_about t (found_topic e.reply) in
    third t
    ∙ ap (λ o. if found then Some place else o) (second t ∙ ap (λ o. if read then Some place else o) (first t ∙ ap (λ o. if asked then Some place else o) (all t)))
    ∙ merged asked read found (Some place) (last_of t mine)
    ∙ ap (λ n. if asked || (read || found) then Some n else last_of t mine) (sym at)
    ∙ ap (λ x. if asked || (x || found) then Some (length mine) else last_of t mine) (heard e.told (read_topic e.request e.reply) t told)
    ∙ ap (λ x. if asked || (is_about t (if_told e.told (read_topic e.request e.reply)) || x) then Some (length mine) else last_of t mine) (heard e.told (found_topic e.reply) t told)

unheard : (told : Bool) (r : Option Topic) (t : Topic) → told ≡ false → false ≡ is_about t (if_told told r)
unheard told r t h = ap (λ b. is_about t (if_told b r)) (sym h)

-- after one that was not
pub lost_lasts : (e : Entry) (mine : List Entry) (place : ℕ) (a b : List Last) → e.told ≡ false → length mine ≡ place
    → Puts (asked_topic e.request) place a b → AreLastsOf a mine → AreLastsOf b (e ∷ mine)
lost_lasts e mine place a b lost at first all t =
    let asked = is_about t (asked_topic e.request) in
    first t
    ∙ ap (λ o. if asked then Some place else o) (all t)
    ∙ merged asked false false (Some place) (last_of t mine)
    ∙ ap (λ n. if asked || (false || false) then Some n else last_of t mine) (sym at)
    ∙ ap (λ x. if asked || (x || false) then Some (length mine) else last_of t mine) (unheard e.told (read_topic e.request e.reply) t lost)
    ∙ ap (λ x. if asked || (is_about t (if_told e.told (read_topic e.request e.reply)) || x) then Some (length mine) else last_of t mine) (unheard e.told (found_topic e.reply) t lost)
