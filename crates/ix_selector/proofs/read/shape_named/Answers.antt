use Rattle.std.proofs.lemmas.Grind.{common_steps}
use Rattle.std.proofs.Common.{arith}
use Rattle.ix_selector.proofs.read.shape_named.Goals as goal

pub returns-in-46 : goal.returns-in-46
returns-in-46 c = grind (arith, common_steps)

pub returns-in-97 : goal.returns-in-97
returns-in-97 c = grind (arith, common_steps)

pub returns-in-102 : goal.returns-in-102
returns-in-102 c = grind (arith, common_steps)

pub returns-in-105 : goal.returns-in-105
returns-in-105 c = grind (arith, common_steps)

pub returns-in-114 : goal.returns-in-114
returns-in-114 c = grind (arith, common_steps)

pub returns-in-82 : goal.returns-in-82
returns-in-82 c = grind (arith, common_steps)

pub returns-in-124 : goal.returns-in-124
returns-in-124 c = grind (arith, common_steps)

pub returns-in-64 : goal.returns-in-64
returns-in-64 c = grind (arith, common_steps)

pub returns-in-38 : goal.returns-in-38
returns-in-38 c = grind (arith, common_steps)

pub returns-in-126 : goal.returns-in-126
returns-in-126 c = grind (arith, common_steps)
