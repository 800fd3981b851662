-- The world that a kept world stands for. A choice of this project.
use Rattle.binder_model.specs.World.{World, world}
use Rattle.world_core.specs.Kept.{History}

-- the world of these entries
abbrev pub world_of : History → World
world_of h = world h.setup h.past
