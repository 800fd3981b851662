-- What is known before a list, and the list, as the code has them. A choice of this project.
use Rattle.informer_cache.specs.declared.merge.View.{View}
use Rattle.informer_cache.specs.Steps.Sights.{Sight}

-- what a list shows, as the proofs name it
abbrev pub sight_of : View → Sight
sight_of v = record { rows = v.rows.now; lists = v.lists.now; namespace = v.namespace.now; version = v.version; items = v.items.now }
