mod AnswerLaws
mod BodyLaws
mod CodeLaws
mod CodesLaws
mod JoinLaws
mod LengthLaws
mod WalkLaws
