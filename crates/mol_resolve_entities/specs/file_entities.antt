pub mod EntitiesRead
