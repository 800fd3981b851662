-- For proofs alone: rows of topics, as one more place is put into them.
use Rattle.std.specs.Prelude.{◌≡◌, ℕ, List, Option, Some, if◌then◌else◌}
use Rattle.plain_data.specs.Rows.{IsAt, IsGap, put}
use Rattle.evidence_agent.specs.declared.by_place.topics.Topic.{Topic}
use Rattle.evidence_agent.specs.declared.by_place.lasts.Last.{Last}
use Rattle.evidence_agent.specs.Places.Topics.{is_about, topic_cmp}
use Rattle.evidence_agent.specs.Places.Rows.{place_in, topic_of}

-- the row of the topic stands at this place
abbrev pub IsLastAt : List Last → Topic → ℕ → Type 0
IsLastAt rows t i = IsAt topic_cmp topic_of t rows i

-- the topic has no row, and its row would stand at this place
abbrev pub IsLastGap : List Last → Topic → ℕ → Type 0
IsLastGap rows t i = IsGap topic_cmp topic_of t rows i

-- a row of this topic and place
abbrev pub last_row : Topic → ℕ → Last
last_row t place = record { topic = t; place = place }

-- the rows with this place for the topic
abbrev pub put_last : Topic → ℕ → List Last → List Last
put_last t place rows = put topic_cmp topic_of (last_row t place) rows

-- the rows of the topic, where there is one, tell the place, and the other rows stay
abbrev pub Puts : Option Topic → ℕ → List Last → List Last → Type 0
Puts topic place was is = (t : Topic) → place_in t is ≡ (if is_about t topic then Some place else place_in t was)
