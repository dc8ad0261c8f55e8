mod NodeFacts
mod YieldFacts
mod CourseFacts
mod GivingFacts
mod LoneFacts
mod JoinedFacts
mod JoinedCourse
