-- The plan that a drawn plan's two lists hold. Nothing here is a rule of the tool: contracts name it so.
use Rattle.ages.specs.Plan.{Plan}
use Rattle.plan.specs.Listed.{plan_in}
use Rattle.plan.specs.declared.DrawnPlan.{DrawnPlan}

abbrev pub drawn_as : DrawnPlan → Plan
drawn_as drawn = plan_in drawn.columns.now drawn.numbers.now
