mod AddedLaws
mod FileKeyLaws
mod ListLaws
mod NumberLaws
mod RangeLaws
mod TallyLaws
mod UseLaws
