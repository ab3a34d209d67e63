use Rattle.std.proofs.Common.{◌-◌, length}
use Rattle.rosuklam.proofs.tree.print_tree.Given as goal

-- every element that is read begins behind the one before
abbrev pub decreases-loop-end : goal.decreases-loop-end
decreases-loop-end l = length l.file - l.at
