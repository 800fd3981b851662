-- What a queue is once the borrow of a key has ended.
-- A choice of this project.
use Rattle.std.specs.Prelude.{◌≡◌, ⊤}
use Rattle.std.specs.Borrow.{Fml, MutBor, follows_so}
use mathlib.Core.Option.{none}
use Rattle.sync_queue.specs.Work.{Work}
use Rattle.sync_queue.specs.contracts.queue.Queue.{the_row}

-- the queue has this work, once the key that it lent is given back
abbrev pub EndsWith : MutBor Work → Work → Fml
EndsWith q w = follows_so the_row the_row q.ghost_name none (λ _ _. ⊤) (λ n. n ≡ w)
