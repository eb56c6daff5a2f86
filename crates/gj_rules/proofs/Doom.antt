-- When the first events of a text show that it is not valid.
pub mod InsideValues
pub mod OutermostMembers
pub mod RootObject
pub mod DoomedTexts
