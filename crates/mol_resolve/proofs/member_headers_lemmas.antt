pub mod ParamsRead
