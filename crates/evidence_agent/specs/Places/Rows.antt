-- Rows of topics, each with the place of the last entry on it.
-- A choice of this project.
use Rattle.std.specs.Prelude.{◌≡◌, ℕ, List, Option, option_map}
use Rattle.plain_data.specs.Rows.{IsRising, find}
use Rattle.call_types.specs.declared.entry.Entry.{Entry}
use Rattle.evidence_agent.specs.declared.by_place.topics.Topic.{Topic}
use Rattle.evidence_agent.specs.declared.by_place.lasts.Last.{Last}
use Rattle.evidence_agent.specs.Places.Topics.{last_of, topic_cmp}

-- what a row is about
abbrev pub topic_of : Last → Topic
topic_of r = r.topic

-- the place of the last entry about it
abbrev pub place_of : Last → ℕ
place_of r = r.place

-- the rows stand in the order of their topics, each topic once
abbrev pub AreLasts : List Last → Type 0
AreLasts rows = IsRising topic_cmp topic_of rows

-- the place of the last entry about a topic, if there is one
abbrev pub place_in : Topic → List Last → Option ℕ
place_in t rows = option_map place_of (find topic_cmp topic_of t rows)

-- the rows tell the place of the last entry on each topic
abbrev pub AreLastsOf : List Last → List Entry → Type 0
AreLastsOf rows mine = (t : Topic) → place_in t rows ≡ last_of t mine
